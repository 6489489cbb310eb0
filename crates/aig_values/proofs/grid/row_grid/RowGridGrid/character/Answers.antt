use Rattle.std.proofs.Common.{sym, ◌∙◌}
use Rattle.aig_parts.specs.Literal.{variable}
use Rattle.aig_values.proofs.SeenRows.{has_cell, read_character}
use Rattle.aig_values.proofs.grid.row_grid.RowGridGrid.character.Goals as goal

pub character_in-requires : goal.character_in-requires
character_in-requires g c =
    has_cell g.R.CellRow.cells c.self.inside.rows.items c.self.invariant c.self.view_is c.requires.frame
    c.index.ensures (variable c.args.literal) c.requires.variable

pub returns : goal.returns
returns g c =
    c.character_in.ensures ∙ sym
    (read_character g.R.CellRow.cells c.self.inside.rows.items c.self.invariant c.self.view_is c.requires.frame
    c.index.ensures c.args.literal c.requires.variable)
