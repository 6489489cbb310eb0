use Rattle.std.proofs.Common.{◌+◌, map, ap, sym, ◌∙◌, subst}
use Rattle.aig_values.specs.Cells.{Cells, with_new_cell}
use Rattle.aig_values.specs.state.Padded.{ArePadded}
use Rattle.aig_values.proofs.PaddedRows.{rows_wider, wider_padded}
use Rattle.aig_values.proofs.grid.row_grid.RowGridGrid.add_gate.Goals as goal

pub invariant_of-self : goal.invariant_of-self
invariant_of-self g c =
    let n = c.self.inside.variables in
    let room = c.self.inside.room in
    let rows = map g.R.CellRow.cells c.self.inside.rows.items in
    let spare = ap (λ (g : Cells). g.room) c.self.view_is ∙ c.requires in
    subst (λ fs. ArePadded (n + 1) room fs rows) (sym c.one_more-self-inside.ensures)
    (wider_padded n room c.self.inside.gates.flags rows c.self.invariant spare)

pub returns-clause-cells : goal.returns-clause-cells
returns-clause-cells g c =
    let spare = ap (λ (g : Cells). g.room) c.self.view_is ∙ c.requires in
    rows_wider c.self.inside.variables c.self.inside.room c.self.inside.gates.flags
    (map g.R.CellRow.cells c.self.inside.rows.items) c.self.invariant spare
    ∙ ap (λ (g : Cells). map with_new_cell g.cells) c.self.view_is
