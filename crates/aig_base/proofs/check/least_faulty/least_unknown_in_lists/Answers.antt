use Rattle.std.proofs.Common.{ℕ, List, subst}
use Rattle.aig_base.specs.state.LeastFaulty.{IsKnownLiteral, IsLeastAmong}
use Rattle.aig_parts.specs.Literal.{variable}
use Rattle.aig_base.proofs.lists.LeastAmong.{least_more_pieces}
use Rattle.aig_base.proofs.check.least_faulty.least_unknown_in_lists.Goals as goal

pub loop-list-preserved : goal.loop-list-preserved
loop-list-preserved c =
    let here = subst (λ (ls : List ℕ). IsLeastAmong (IsKnownLiteral c.args.table.now) variable ls c.least_unknown.result)
    c.as_slice.ensures c.least_unknown.ensures in
    rw c.lesser-least.ensures
    (least_more_pieces (IsKnownLiteral c.args.table.now) variable (λ
    (p : List ℕ). p) c.args.lists.now c.loop-list.list-index c.list-item.result c.loop-list.least
    c.least_unknown.result
    c.loop-list-test.true c.list-item.is c.loop-list.invariant here)
