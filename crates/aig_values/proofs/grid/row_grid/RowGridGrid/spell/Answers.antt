use Rattle.std.proofs.Common.{◌∙◌}
use Rattle.aig_values.proofs.SeenRows.{have_cells, read_characters}
use Rattle.aig_values.proofs.grid.row_grid.RowGridGrid.spell.Goals as goal

pub spell-requires-clause-cells : goal.spell-requires-clause-cells
spell-requires-clause-cells g c =
    have_cells g.R.CellRow.cells c.self.inside.rows.items c.self.invariant c.self.view_is c.requires.frame
    c.index.ensures c.args.literals.now c.requires.variables

pub returns : goal.returns
returns g c =
    c.spell.ensures
    ∙ read_characters g.R.CellRow.cells c.self.inside.rows.items c.self.invariant c.self.view_is c.requires.frame
    c.index.ensures c.args.literals.now c.requires.variables
