use Rattle.std.proofs.Common.{◌≡◌, ◌∷◌, List, length}
use Rattle.aig_parts.specs.declared.raw.Raw.{Raw}
use Rattle.aig_parts.specs.declared.ternary.Tern.{Tern}
use Rattle.aig_reduce.specs.state.Places.{Undoes}
use Rattle.aig_reduce.specs.state.Reducing.{Runs}
use Rattle.aig_reduce.proofs.reducer.Reducer.take_back.Given as goal

abbrev pub invariant-loop-last : goal.invariant-loop-last
invariant-loop-last l = record {
  property : l.self.property ≡ l.initial.self.property;
  runs : (raw : Raw) (was : List (List Tern)) → l.latches ≡ raw.latches
      → Runs raw l.initial.self.bench.pair l.initial.self.start.items
      → Undoes l.initial.cleared.items (l.initial.self.start.items ∷ l.initial.self.bench.pair.rows) was
      → Runs raw l.self.bench.pair l.self.start.items
      × Undoes l.cleared.items (l.self.start.items ∷ l.self.bench.pair.rows) was;
}

abbrev pub decreases-loop-last : goal.decreases-loop-last
decreases-loop-last l = length l.cleared.items
