use Rattle.aig_reduce.specs.state.Places.{IsUpTo}
use Rattle.aig_reduce.specs.state.Steps.{Clears, LeadsBack}
use Rattle.aig_reduce.proofs.reducer.Reducer.clear.Given as goal

abbrev pub invariant-loop-step : goal.invariant-loop-step
invariant-loop-step l = record {
  clearing : Clears l.known l.initial.self l.fn.from l.self l.place;
  undoes : LeadsBack l.known l.initial.self l.initial.cleared.items l.fn.from l.self l.cleared.items;
  on : IsUpTo l.fn.from.list l.fn.from.position l.place.list l.place.position;
}
