use Rattle.aig_bench.proofs.cells.NewGrids.{FlagsTo}
use Rattle.aig_bench.proofs.engine.new_grid.gate_flags.Given as goal

abbrev pub invariant-loop-variable : goal.invariant-loop-variable
invariant-loop-variable l = FlagsTo l.circuit l.variable l.flags.items
