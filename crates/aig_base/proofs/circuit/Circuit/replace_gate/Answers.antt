use Rattle.std.proofs.Common.{List, Some, None, sym, ap, subst, ◌∙◌}
use Rattle.std.proofs.lemmas.Option.{same_Some, none-some}
use Rattle.aig_base.specs.declared.circuit.definition.Definition.TheVariants as definition
use Rattle.aig_parts.specs.declared.gate.Gate.{Gate}
use Rattle.aig_parts.specs.declared.raw.Raw.{Raw}
use Rattle.aig_base.specs.Changes.{with_gate}
use Rattle.aig_base.specs.Circuit.{IsCircuit}
use Rattle.aig_base.specs.Definition.{Defines}
use Rattle.aig_base.specs.Grounded.{IsAcyclic}
use Rattle.aig_parts.specs.Literal.{variable}
use Rattle.aig_base.specs.Sections.{IsDefined, IsLeftSide}
use Rattle.aig_base.proofs.circuits.EntryPlaces.{left_side_defined}
use Rattle.aig_base.proofs.rewires.Rewiring.{gate_changed, with_gate-circuit, with_gate-describes}
use Rattle.aig_base.proofs.circuit.Circuit.replace_gate.Goals as goal

pub invariant_of-self : goal.invariant_of-self
invariant_of-self c =
    let raw = c.self.inside.raw in
    let back = sym c.self.view_is in
    let gate = c.args.gate in
    let r0 = c.args.r0 in
    let r1 = c.args.r1 in
    let is = subst (λ (r : Raw). IsLeftSide r gate) back c.requires.gate in
    let found = subst (λ (r : Raw). Defines r c.var.result c.in-Some.definition) back c.in-Some.ensures.found in
    let e = gate_changed gate r0 r1 raw c.self.invariant.0.sound is c.var.result c.in-Gate.position c.in-Some.definition
    c.set.new.self c.var.ensures c.in-Gate.is found c.set.ensures in
    rw e (
      with_gate-circuit gate r0 r1 raw c.self.invariant.0
          (subst (λ (r : Raw). IsDefined r (variable r0)) back c.requires.defined0)
          (subst (λ (r : Raw). IsDefined r (variable r1)) back c.requires.defined1)
          (subst (λ (r : Raw). IsAcyclic (with_gate r gate r0 r1)) back c.requires.acyclic),
      with_gate-describes gate r0 r1 raw c.self.inside.definitions c.self.invariant.1,
      rw c.forget.ensures tt,
    )

pub returns-in-Gate : goal.returns-in-Gate
returns-in-Gate c =
    let raw = c.self.inside.raw in
    let back = sym c.self.view_is in
    let gate = c.args.gate in
    let is = subst (λ (r : Raw). IsLeftSide r gate) back c.requires.gate in
    let found = subst (λ (r : Raw). Defines r c.var.result c.in-Some.definition) back c.in-Some.ensures.found in
    let e = gate_changed gate c.args.r0 c.args.r1 raw c.self.invariant.0.sound is c.var.result c.in-Gate.position
    c.in-Some.definition c.set.new.self c.var.ensures c.in-Gate.is found c.set.ensures in
    ap (λ (gs : List Gate). let r : Raw = record raw { gates = gs } in r) e ∙ ap (λ
    (r : Raw). with_gate r gate c.args.r0 c.args.r1) c.self.view_is

pub returns-in_default-definition : goal.returns-in_default-definition
returns-in_default-definition c =
    let raw = c.args.self.now in
    let circuit = subst IsCircuit c.self.view_is c.self.invariant.0 in
    absurd (left_side_defined raw circuit.sound c.args.gate c.var.result c.requires.gate c.var.ensures
    (Some c.in-Some.definition) c.in-Some.ensures.found tt
    (λ q e. c.in_default-definition.not-Gate q (same_Some c.in-Some.definition (definition.Gate q) e)))

pub returns-in_default : goal.returns-in_default
returns-in_default c =
    let raw = c.args.self.now in
    let circuit = subst IsCircuit c.self.view_is c.self.invariant.0 in
    absurd (left_side_defined raw circuit.sound c.args.gate c.var.result c.requires.gate c.var.ensures None tt
    c.in_default.ensures.none
    (λ q e. none-some (definition.Gate q) e))
