use Rattle.std.proofs.Common.{map}
use Rattle.aig_values.proofs.PaddedRows.{Longer}
use Rattle.aig_values.proofs.grid.row_grid.make_room.Given as goal

abbrev pub invariant-loop-frame : goal.invariant-loop-frame
invariant-loop-frame g l = Longer (map g.R.CellRow.cells l.initial.rows) (map g.R.CellRow.cells l.rows) l.size l.frame
