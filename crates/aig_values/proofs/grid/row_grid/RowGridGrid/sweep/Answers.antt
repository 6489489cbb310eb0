use Rattle.aig_values.proofs.SweptRows.{row_places, swept_items, swept_padded_items}
use Rattle.aig_values.proofs.grid.row_grid.RowGridGrid.sweep.Goals as goal

pub sweep_row-requires : goal.sweep_row-requires
sweep_row-requires g c =
    row_places g.R.CellRow.cells c.self.inside.rows.items c.self.invariant c.self.view_is c.requires.frame
    c.index_mut.ensures.value c.args.gates.now c.requires.gates

pub invariant_of-self : goal.invariant_of-self
invariant_of-self g c =
    swept_padded_items g.R.CellRow.cells c.self.inside.rows.items c.self.invariant c.self.view_is c.requires.frame
    c.index_mut.ensures.value c.args.gates.now c.requires.gates
    c.sweep_row.new.row c.sweep_row.ensures

pub returns-clause-cells : goal.returns-clause-cells
returns-clause-cells g c =
    swept_items g.R.CellRow.cells c.self.inside.rows.items c.self.invariant c.self.view_is c.requires.frame
    c.index_mut.ensures.value c.args.gates.now c.requires.gates
    c.sweep_row.new.row c.sweep_row.ensures
