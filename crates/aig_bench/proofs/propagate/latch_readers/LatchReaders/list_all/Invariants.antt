use Rattle.std.proofs.Common.{ℕ, ◌≤◌}
use Rattle.aig_parts.specs.declared.raw.Raw.{Raw}
use Rattle.aig_bench.specs.state.Latches.{AreLatchReaders, IsLatchList}
use Rattle.aig_bench.proofs.carries.LatchChains.{AreListedOver}
use Rattle.aig_bench.proofs.propagate.latch_readers.LatchReaders.list_all.Given as goal

abbrev pub invariant-loop-latch : goal.invariant-loop-latch
invariant-loop-latch l = record {
  list : (n : ℕ) → IsLatchList n l.initial.list → IsLatchList n l.list;
  lists : (raw : Raw) → AreLatchReaders raw l.self → l.variable ≤ raw.max_var
      → AreListedOver raw l.variable l.latch l.initial.list l.list;
}

abbrev pub decreases-loop-latch : goal.decreases-loop-latch
decreases-loop-latch l = l.latch
