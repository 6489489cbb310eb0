use Rattle.std.proofs.Common.{◌-◌, vec_len, map, ap, sym, ◌∙◌, subst}
use Rattle.std.proofs.lemmas.List.{take-map}
use Rattle.aig_values.specs.state.Padded.{ArePadded}
use Rattle.aig_values.proofs.PaddedRows.{first_padded}
use Rattle.aig_values.proofs.grid.row_grid.RowGridGrid.drop_row.Goals as goal

pub invariant_of-self : goal.invariant_of-self
invariant_of-self g c =
    let cells = g.R.CellRow.cells in
    let n = c.self.inside.variables in
    let room = c.self.inside.room in
    let flags = c.self.inside.gates.flags in
    let items = c.self.inside.rows.items in
    let left = vec_len c.self.inside.rows - 1 in
    subst (ArePadded n room flags) (take-map cells left items ∙ sym (ap (map cells) c.pop.ensures.rest))
    (first_padded n room flags (map cells items) left c.self.invariant)
