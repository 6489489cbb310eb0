use Rattle.std.proofs.Common.{◌≡◌, List, length, drop}
use Rattle.aig_parts.specs.declared.ternary.Tern.{Tern}
use Rattle.aig_shell.specs.State.{row_edits}
use Rattle.aig_shell.specs.Written.{RowsLead}
use Rattle.aig_shell.proofs.session.at_once.write_row.Given as goal

abbrev pub invariant-loop-place : goal.invariant-loop-place
invariant-loop-place l = record {
  leads : (new : List (List Tern)) → RowsLead l.stimulus.width l.stimulus.rows (row_edits l.frame (drop l.place l.positions) (drop l.place l.values)) new
      → RowsLead l.initial.stimulus.width l.initial.stimulus.rows (row_edits l.frame l.positions l.values) new;
  frames : length l.stimulus.rows ≡ length l.initial.stimulus.rows;
  width : l.stimulus.width ≡ l.initial.stimulus.width;
}
