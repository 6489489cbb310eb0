use Rattle.std.proofs.Common.{sym, ◌∙◌}
use Rattle.aig_parts.specs.Literal.{variable}
use Rattle.aig_values.proofs.SeenRows.{has_cell, read_literal}
use Rattle.aig_values.proofs.grid.row_grid.RowGridGrid.literal.Goals as goal

pub literal_in-requires : goal.literal_in-requires
literal_in-requires g c =
    has_cell g.R.CellRow.cells c.self.inside.rows.items c.self.invariant c.self.view_is c.requires.frame
    c.index.ensures (variable c.args.literal) c.requires.variable

pub returns : goal.returns
returns g c =
    c.literal_in.ensures ∙ sym
    (read_literal g.R.CellRow.cells c.self.inside.rows.items c.self.invariant c.self.view_is c.requires.frame
    c.index.ensures c.args.literal c.requires.variable)
