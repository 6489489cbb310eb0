use Rattle.std.proofs.Common.{ℕ}
use Rattle.aig_parts.specs.Literal.{variable}
use Rattle.aig_reduce.specs.state.Needed.{AreFollowing, Follows}
use Rattle.aig_reduce.proofs.spread.Spread.reaches_needed.Given as goal

abbrev pub invariant-loop-place : goal.invariant-loop-place
invariant-loop-place g l = record {
  following : (property m i : ℕ) → Follows l.bench.pair property l.frame m i (variable l.fn.source)
      → AreFollowing l.bench.pair property l.frame m i l.self.list.items;
}
