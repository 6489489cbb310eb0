use Rattle.std.proofs.Common.{◌≡◌, ◌+◌}
use Rattle.aig_values.proofs.grid.row_grid.count_more.Given as goal

abbrev pub invariant-loop : goal.invariant-loop
invariant-loop l = l.count.number ≡ l.fn.count.number + l.counter
