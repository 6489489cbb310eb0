use Rattle.std.proofs.Common.{◌≡◌, ℕ, ◌<◌, List, Some, false, slice_get}
use Rattle.aig_bench.specs.state.Buckets.{AreQueues, LinksIn}
use Rattle.aig_bench.specs.state.Waiting.{view_of}
use Rattle.aig_bench.proofs.propagate.link.link_all.Given as goal

abbrev pub invariant-loop-variable : goal.invariant-loop-variable
invariant-loop-variable l = record {
  queues : (levels : List ℕ) → AreQueues levels l.initial.head (view_of l.initial.slots false) l.initial.occupied
      → AreQueues levels l.head (view_of l.slots false) l.occupied;
  links : LinksIn (λ u. (j : ℕ) × (j < l.variable-index) × (slice_get l.variables j ≡ Some u)) l.initial.head
      (view_of l.initial.slots false) l.head (view_of l.slots false);
}
