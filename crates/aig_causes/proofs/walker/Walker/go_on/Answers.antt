use Rattle.std.proofs.Common.{◌≡◌, ◌<◌, length, sym, subst, Some, slice_get}
use Rattle.std.proofs.lemmas.Option.{slice_get_within}
use Rattle.aig_parts.specs.declared.raw.Raw.{Raw}
use Rattle.aig_base.specs.Definition.{Defines, IsFree}
use Rattle.aig_base.specs.declared.circuit.definition.Definition.TheVariants as definition
use Rattle.aig_causes.specs.Causes.{moment}
use Rattle.aig_causes.specs.state.Walk.{walk_of}
use Rattle.aig_causes.proofs.Walks.{leads_nowhere, leads_to_gate, leads_to_input, leads_to_latch}
use Rattle.aig_causes.proofs.walker.Walker.go_on.Goals as goal

pub returns-in-None-clause-leads : goal.returns-in-None-clause-leads
returns-in-None-clause-leads g c =
    let p = c.args.bench.now.pair in
    leads_nowhere p.circuit c.width.ensures.circuit.sound (moment p c.args.frame) (walk_of c.args.self.now) c.args.variable
    (subst (λ (r : Raw). IsFree r c.args.variable) c.circuit.ensures c.in-None.ensures.none)

pub returns-in_ok-add_input-in-Some-Input-clause-leads : goal.returns-in_ok-add_input-in-Some-Input-clause-leads
returns-in_ok-add_input-in-Some-Input-clause-leads g c =
    let p = c.args.bench.now.pair in
    leads_to_input p.circuit c.width.ensures.circuit.sound (moment p c.args.frame) (walk_of c.args.self.now) c.args.variable
    c.in-Some-Input.position c.add_input.new.self
    (subst (λ (r : Raw). Defines r c.args.variable (definition.Input c.in-Some-Input.position)) c.circuit.ensures
    (rw c.in-Some-Input.field-0-is at c.in-Some-Input.ensures.found)) c.in_ok-add_input-in-Some-Input.ensures

pub returns-in_ok-add_latch-in-Some-Latch-clause-leads : goal.returns-in_ok-add_latch-in-Some-Latch-clause-leads
returns-in_ok-add_latch-in-Some-Latch-clause-leads g c =
    let p = c.args.bench.now.pair in
    leads_to_latch p.circuit c.width.ensures.circuit.sound (moment p c.args.frame) (walk_of c.args.self.now) c.args.variable
    c.in-Some-Latch.position c.add_latch.new.self
    (subst (λ (r : Raw). Defines r c.args.variable (definition.Latch c.in-Some-Latch.position)) c.circuit.ensures
    (rw c.in-Some-Latch.field-0-is at c.in-Some-Latch.ensures.found)) c.in_ok-add_latch-in-Some-Latch.ensures

pub returns-in_ok-queue_sides-in-Some-Gate-clause-leads : goal.returns-in_ok-queue_sides-in-Some-Gate-clause-leads
returns-in_ok-queue_sides-in-Some-Gate-clause-leads g c =
    let p = c.args.bench.now.pair in
    let old = walk_of c.args.self.now in
    let gate = c.gate_at-gate.result in
    let some = c.sides-sides.result in
    let at : slice_get p.circuit.gates c.in-Some-Gate.place ≡ Some gate =
    subst (λ (r : Raw). slice_get r.gates c.in-Some-Gate.place ≡ Some gate) c.circuit-in-Some-Gate.ensures c.gate_at-gate.ensures in
    leads_to_gate p.circuit c.width.ensures.circuit.sound (moment p c.args.frame) old c.args.variable c.in-Some-Gate.place
    gate some c.queue_sides.new.todo.items
    (subst (λ (r : Raw). Defines r c.args.variable (definition.Gate c.in-Some-Gate.place)) c.circuit.ensures
    (rw c.in-Some-Gate.field-0-is at c.in-Some-Gate.ensures.found)) at c.sides-sides.ensures
    c.in_ok-queue_sides-in-Some-Gate.ensures

pub gate_at-gate-requires : goal.gate_at-gate-requires
gate_at-gate-requires g c =
    let p = c.args.bench.now.pair in
    let found = subst (λ (r : Raw). Defines r c.args.variable (definition.Gate c.in-Some-Gate.place)) c.circuit.ensures
    (rw c.in-Some-Gate.field-0-is at c.in-Some-Gate.ensures.found) in
    let within : c.in-Some-Gate.place < length p.circuit.gates =
    slice_get_within p.circuit.gates c.in-Some-Gate.place found.0 found.1 in
    subst (λ (r : Raw). c.in-Some-Gate.place < length r.gates) (sym c.circuit-in-Some-Gate.ensures) within

pub sides-sides-requires : goal.sides-sides-requires
sides-sides-requires g c = record {
  walker = c.requires;
  gate = (
    c.in-Some-Gate.place,
    subst (λ (r : Raw). slice_get r.gates c.in-Some-Gate.place ≡ Some c.gate_at-gate.result) c.circuit-in-Some-Gate.ensures
        c.gate_at-gate.ensures,
  );
}
