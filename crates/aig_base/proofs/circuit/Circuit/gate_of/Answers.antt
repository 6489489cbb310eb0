use Rattle.std.proofs.Common.{◌≡◌, ◌∙◌, Some, slice_get, sym, ap, refl}
use Rattle.std.proofs.lemmas.Option.{slice_get-get_or, slice_get_within}
use Rattle.aig_base.proofs.circuits.Gates.{input_no_gate, latch_no_gate, free_no_gate}
use Rattle.aig_base.proofs.circuits.Places.{input, latch, gate}
use Rattle.aig_base.proofs.circuits.Roles.{one_place}
use Rattle.aig_base.proofs.renumbered.Renumberings.{gate_found, no_gate_found, not_free}
use Rattle.aig_base.proofs.circuit.Circuit.gate_of.Goals as goal

pub returns-in-Some-Input-clause-is : goal.returns-in-Some-Input-clause-is
returns-in-Some-Input-clause-is c =
    let raw = c.args.self.now in
    let (l, at, is) = rw c.in-Some-Input.field-0-is at c.in-Some-Input.ensures.found in
    sym (no_gate_found raw c.args.variable (λ q g here same.
    let k = one_place raw c.facts.ensures.sound (gate q) (input _) g.lhs l tt tt (g, here, refl)
    at (same ∙ sym is) in cc))

pub returns-in-Some-Latch-clause-is : goal.returns-in-Some-Latch-clause-is
returns-in-Some-Latch-clause-is c =
    let raw = c.args.self.now in
    let (x, at, is) = rw c.in-Some-Latch.field-0-is at c.in-Some-Latch.ensures.found in
    sym (no_gate_found raw c.args.variable (λ q g here same.
    let k = one_place raw c.facts.ensures.sound (gate q) (latch _) g.lhs x.lit tt tt
    (g, here, refl) (x, at, refl) (same ∙ sym is) in cc))

pub returns-in-Some-Gate-clause-is : goal.returns-in-Some-Gate-clause-is
returns-in-Some-Gate-clause-is c =
    let raw = c.args.self.now in
    let (g, at, is) = rw c.in-Some-Gate.field-0-is at c.in-Some-Gate.ensures.found in
    let lt = slice_get_within raw.gates _ g at in
    let here = rw c.gates.ensures at c.index-gates-position.is in
    let same : slice_get raw.gates c.in-Some-Gate.position ≡ Some c.index-gates-position.result =
    slice_get-get_or raw.gates c.in-Some-Gate.position c.index-gates-position.result lt ∙ ap Some (sym here) in
    sym (gate_found raw c.facts.ensures.sound c.args.variable _ g at is ∙ sym at ∙ same)

pub returns-in-None-clause-is : goal.returns-in-None-clause-is
returns-in-None-clause-is c =
    let raw = c.args.self.now in
    sym (no_gate_found raw c.args.variable
    (λ q g here same. not_free raw (gate q) g.lhs c.args.variable tt (g, here, refl) same c.in-None.ensures.none))

pub returns-in-Some-Input-clause-none : goal.returns-in-Some-Input-clause-none
returns-in-Some-Input-clause-none c =
    input_no_gate c.args.self.now c.facts.ensures.sound c.args.variable c.in-Some-Input.field-0-0
    (rw c.in-Some-Input.field-0-is at c.in-Some-Input.ensures.found)

pub returns-in-Some-Latch-clause-none : goal.returns-in-Some-Latch-clause-none
returns-in-Some-Latch-clause-none c =
    latch_no_gate c.args.self.now c.facts.ensures.sound c.args.variable c.in-Some-Latch.field-0-0
    (rw c.in-Some-Latch.field-0-is at c.in-Some-Latch.ensures.found)

pub returns-in-None-clause-none : goal.returns-in-None-clause-none
returns-in-None-clause-none c = free_no_gate c.args.self.now c.args.variable c.in-None.ensures.none
