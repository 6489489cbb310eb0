use Rattle.std.proofs.Common.{ℕ}
use Rattle.aig_bench.specs.state.Latches.{IsLatchList}
use Rattle.aig_bench.proofs.carries.LatchLists.{listed}
use Rattle.aig_bench.proofs.propagate.latch_list.LatchList.clear.Given as goal

abbrev pub invariant-loop : goal.invariant-loop
invariant-loop l = record {
  list : (n : ℕ) → IsLatchList n l.initial.self → IsLatchList n l.self;
}

abbrev pub decreases-loop : goal.decreases-loop
decreases-loop l = listed l.self.marks.items
