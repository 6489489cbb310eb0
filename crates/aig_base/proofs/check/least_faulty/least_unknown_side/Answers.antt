use Rattle.std.proofs.Common.{ℕ, [], ◌∷◌, Option, subst, sym}
use Rattle.aig_parts.specs.declared.gate.Gate.{Gate}
use Rattle.aig_base.specs.state.LeastFaulty.{IsKnownLiteral, IsLeastAmong}
use Rattle.aig_parts.specs.Literal.{variable}
use Rattle.aig_base.proofs.lists.LeastAmong.{least_of_both, least_more_pieces}
use Rattle.aig_base.proofs.check.least_faulty.least_unknown_side.Goals as goal

pub loop-gate-preserved : goal.loop-gate-preserved
loop-gate-preserved c =
    let g = c.gate-item.result in
    let both = least_of_both (IsKnownLiteral c.args.table.now) variable (g.rhs0 ∷ [])
    (g.rhs1 ∷ []) _ _ c.unknown.ensures c.unknown-in-loop-gate.ensures in
    let here = subst (λ (o : Option ℕ). IsLeastAmong (IsKnownLiteral c.args.table.now) variable (g.rhs0 ∷ g.rhs1 ∷ []) o)
    (sym c.lesser-side.ensures) both in
    rw c.lesser-least.ensures
    (least_more_pieces (IsKnownLiteral c.args.table.now) variable (λ
    (x : Gate). x.rhs0 ∷ x.rhs1 ∷ []) c.args.gates.now c.loop-gate.gate-index g c.loop-gate.least
    c.lesser-side.result
    c.loop-gate-test.true c.gate-item.is c.loop-gate.invariant here)
