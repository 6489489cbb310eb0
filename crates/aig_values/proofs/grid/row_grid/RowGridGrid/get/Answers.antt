use Rattle.std.proofs.Common.{Some, ap, sym, ◌∙◌}
use Rattle.aig_values.proofs.SeenRows.{has_cell, read_cell}
use Rattle.aig_values.proofs.grid.row_grid.RowGridGrid.get.Goals as goal

pub get-requires : goal.get-requires
get-requires g c =
    has_cell g.R.CellRow.cells c.self.inside.rows.items c.self.invariant c.self.view_is c.requires.frame
    c.index.ensures c.args.variable c.requires.variable

pub returns : goal.returns
returns g c =
    read_cell g.R.CellRow.cells c.self.inside.rows.items c.self.invariant c.self.view_is c.requires.frame
    c.index.ensures c.args.variable c.requires.variable
    ∙ c.get.ensures ∙ ap Some (sym c.value.ensures)
