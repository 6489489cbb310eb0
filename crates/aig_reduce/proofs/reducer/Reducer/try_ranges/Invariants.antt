use Rattle.aig_reduce.specs.state.Steps.{Tries}
use Rattle.aig_reduce.proofs.reducer.Reducer.try_ranges.Given as goal

abbrev pub invariant-sizes : goal.invariant-sizes
invariant-sizes l = record { reducing : Tries l.known l.initial.self l.from l.self l.from }

abbrev pub decreases-sizes : goal.decreases-sizes
decreases-sizes l = l.pace.size
