use Rattle.std.proofs.Common.{ℕ, List, [], ◌∷◌, map, ap, subst}
use Rattle.std.specs.List.{flat_map}
use Rattle.aig_parts.specs.declared.latch.Latch.{Latch}
use Rattle.aig_parts.specs.declared.gate.Gate.{Gate}
use Rattle.aig_base.specs.state.LeastFaulty.{IsKnownLiteral, IsLeastAmong}
use Rattle.aig_parts.specs.Literal.{variable}
use Rattle.aig_base.proofs.lists.LeastAmong.{least_joined}
use Rattle.aig_base.proofs.check.least_faulty.least_undefined.Goals as goal

pub returns : goal.returns
returns c =
    let known = IsKnownLiteral c.args.table.now in
    let raw = c.args.raw.now in
    let nexts = λ (xs : List Latch). map (λ x. x.next) xs in
    let lists = λ (ps : List (List ℕ)). flat_map (λ p. p) ps in
    let sides = λ (gs : List Gate). flat_map (λ g. g.rhs0 ∷ g.rhs1 ∷ []) gs in
    let latches = subst (λ (xs : List Latch). IsLeastAmong known variable
    (nexts xs) c.least_unknown_next-least.result) c.as_slice.ensures c.least_unknown_next-least.ensures in
    least_joined known variable _ (sides raw.gates) _ _ _ _ (ap sides c.as_slice-7.ensures) c.lesser.ensures
    (least_joined known variable _ raw.fairness _ _ _ _ c.as_slice-6.ensures c.lesser-least-5.ensures
    (least_joined known variable _ (lists raw.justice) _ _ _ _ (ap lists c.as_slice-5.ensures) c.lesser-least-4.ensures
    (least_joined known variable _ raw.constraints _ _ _ _ c.as_slice-4.ensures c.lesser-least-3.ensures
    (least_joined known variable _ raw.bad _ _ _ _ c.as_slice-3.ensures c.lesser-least-2.ensures
    (least_joined known variable (nexts raw.latches) raw.outputs _ _ _ _ c.as_slice-2.ensures c.lesser-least.ensures
    latches c.least_unknown.ensures)
    c.least_unknown-2.ensures)
    c.least_unknown-3.ensures)
    c.least_unknown_in_lists.ensures)
    c.least_unknown-4.ensures)
    c.least_unknown_side.ensures
