use Rattle.std.proofs.Common.{◌≡◌, false, set, ap, ◌∙◌}
use Rattle.std.proofs.lemmas.Option.{slice_get_within}
use Rattle.aig_values.proofs.SeenRows.{has_cell, reached_item, items_padded, items_written}
use Rattle.aig_values.proofs.grid.row_grid.RowGridGrid.put_source.Goals as goal

pub set-requires : goal.set-requires
set-requires g c =
    has_cell g.R.CellRow.cells c.self.inside.rows.items c.self.invariant c.self.view_is c.requires.frame
    c.index_mut.ensures.value c.args.variable
    (slice_get_within c.args.self.now.gate_flags c.args.variable false c.requires.source)

pub invariant_of-self : goal.invariant_of-self
invariant_of-self g c =
    let r =
    reached_item g.R.CellRow.cells c.self.inside.rows.items c.self.invariant c.self.view_is c.requires.frame
    c.index_mut.ensures.value c.args.variable false c.requires.source in
    let row = g.R.CellRow.cells c.index_mut.result.now in
    let new : g.R.CellRow.cells c.set.new.self ≡ set row c.args.variable c.args.value =
    c.set.ensures ∙ ap (set row c.args.variable) c.of.ensures in
    items_padded g.R.CellRow.cells c.self.inside.rows.items r c.args.value c.set.new.self new c.self.inside.room c.self.inside.gates.flags
    c.self.invariant

pub returns-clause-cells : goal.returns-clause-cells
returns-clause-cells g c =
    let r =
    reached_item g.R.CellRow.cells c.self.inside.rows.items c.self.invariant c.self.view_is c.requires.frame
    c.index_mut.ensures.value c.args.variable false c.requires.source in
    let row = g.R.CellRow.cells c.index_mut.result.now in
    let new : g.R.CellRow.cells c.set.new.self ≡ set row c.args.variable c.args.value =
    c.set.ensures ∙ ap (set row c.args.variable) c.of.ensures in
    items_written g.R.CellRow.cells c.self.inside.rows.items r c.args.value c.set.new.self new
