use Rattle.std.proofs.Common.{true, ap, ◌∙◌}
use Rattle.std.proofs.lemmas.Option.{slice_get_within}
use Rattle.aig_parts.specs.declared.ternary.Tern.{Tern}
use Rattle.aig_parts.specs.Literal.{variable}
use Rattle.aig_values.specs.Cells.{gate_value}
use Rattle.aig_values.specs.InputRows.{with_cell}
use Rattle.aig_values.proofs.PaddedRows.{gate_of_row, cell_before}
use Rattle.aig_values.proofs.SeenRows.{has_cell, reached_item, items_padded, items_written, item_after}
use Rattle.aig_values.proofs.grid.row_grid.RowGridGrid.evaluate.Goals as goal

pub evaluate-changed-requires : goal.evaluate-changed-requires
evaluate-changed-requires g c =
    let there =
    has_cell g.R.CellRow.cells c.self.inside.rows.items c.self.invariant c.self.view_is c.requires.frame
    c.index_mut.ensures.value in
    record {
      lhs = there (variable c.args.gate.lhs)
          (slice_get_within c.args.self.now.gate_flags (variable c.args.gate.lhs) true c.requires.gate.gate);
      rhs0 = there (variable c.args.gate.rhs0) c.requires.gate.rhs0;
      rhs1 = there (variable c.args.gate.rhs1) c.requires.gate.rhs1;
    }

pub invariant_of-self : goal.invariant_of-self
invariant_of-self g c =
    let r =
    reached_item g.R.CellRow.cells c.self.inside.rows.items c.self.invariant c.self.view_is c.requires.frame
    c.index_mut.ensures.value (variable c.args.gate.lhs) true c.requires.gate.gate in
    items_padded g.R.CellRow.cells c.self.inside.rows.items r (gate_value (g.R.CellRow.cells c.index_mut.result.now) c.args.gate)
    c.evaluate-changed.new.self c.evaluate-changed.ensures.cells c.self.inside.room c.self.inside.gates.flags
    c.self.invariant

pub returns-clause-cells : goal.returns-clause-cells
returns-clause-cells g c =
    let r =
    reached_item g.R.CellRow.cells c.self.inside.rows.items c.self.invariant c.self.view_is c.requires.frame
    c.index_mut.ensures.value (variable c.args.gate.lhs) true c.requires.gate.gate in
    items_written g.R.CellRow.cells c.self.inside.rows.items r (gate_value (g.R.CellRow.cells c.index_mut.result.now) c.args.gate)
    c.evaluate-changed.new.self c.evaluate-changed.ensures.cells
    ∙ ap (λ (x : Tern). with_cell c.args.self.now.cells c.args.frame (variable c.args.gate.lhs) x)
    (gate_of_row r c.args.gate c.requires.gate.rhs0 c.requires.gate.rhs1)

pub returns-clause-changed : goal.returns-clause-changed
returns-clause-changed g c =
    let r =
    reached_item g.R.CellRow.cells c.self.inside.rows.items c.self.invariant c.self.view_is c.requires.frame
    c.index_mut.ensures.value (variable c.args.gate.lhs) true c.requires.gate.gate in
    let after =
    item_after g.R.CellRow.cells c.self.inside.rows.items r (gate_value (g.R.CellRow.cells c.index_mut.result.now) c.args.gate)
    c.evaluate-changed.new.self c.evaluate-changed.ensures.cells c.self.inside.room c.self.inside.gates.flags
    c.self.invariant in
    rw (after, cell_before r) c.evaluate-changed.ensures.changed
