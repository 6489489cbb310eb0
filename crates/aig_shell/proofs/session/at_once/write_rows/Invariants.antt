use Rattle.std.proofs.Common.{◌≡◌, ◌-◌, List, length}
use Rattle.aig_parts.specs.declared.ternary.Tern.{Tern}
use Rattle.aig_shell.specs.State.{set_edits}
use Rattle.aig_shell.specs.Written.{RowsLead}
use Rattle.aig_shell.proofs.session.at_once.write_rows.Given as goal

abbrev pub invariant-loop-frame : goal.invariant-loop-frame
invariant-loop-frame l = record {
  leads : (new : List (List Tern)) → RowsLead l.stimulus.width l.stimulus.rows (set_edits l.frame (l.end - l.frame) l.positions l.values) new
      → RowsLead l.initial.stimulus.width l.initial.stimulus.rows (set_edits l.first (l.end - l.first) l.positions l.values) new;
  frames : length l.stimulus.rows ≡ length l.initial.stimulus.rows;
  width : l.stimulus.width ≡ l.initial.stimulus.width;
}
