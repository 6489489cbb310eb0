use Rattle.std.proofs.Common.{◌+◌, ◌*◌, ◌-◌, ◌^◌}
use Rattle.aig_reduce.specs.state.Steps.{Tries}
use Rattle.aig_reduce.proofs.reducer.Reducer.try_all.Given as goal

abbrev pub invariant-places : goal.invariant-places
invariant-places l = record {
  reducing : Tries l.known l.initial.self (record { list = 0; position = 0 }) l.self l.place;
}

abbrev pub decreases-places : goal.decreases-places
decreases-places l = (l.frames + 1 - l.place.list) * 2 ^ 64 + (2 ^ 64 - l.place.position)
