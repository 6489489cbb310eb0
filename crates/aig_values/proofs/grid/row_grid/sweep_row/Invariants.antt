use Rattle.std.proofs.Common.{◌≡◌, fold, take}
use Rattle.aig_values.specs.Cells.{with_gate_value}
use Rattle.aig_values.proofs.grid.row_grid.sweep_row.Given as goal

abbrev pub invariant-loop-gate : goal.invariant-loop-gate
invariant-loop-gate g l =
    g.R.CellRow.cells l.row ≡ fold with_gate_value (g.R.CellRow.cells l.fn.row) (take l.gate-index l.gates)
