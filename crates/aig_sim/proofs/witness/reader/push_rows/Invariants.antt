use Rattle.std.proofs.Common.{◌≡◌, List, length, take, drop}
use Rattle.aig_parts.specs.declared.ternary.Tern.{Tern}
use Rattle.aig_sim.specs.state.Checking.{SpellsFrames}
use Rattle.aig_sim.specs.WitnessText.{witness_rows_text}
use Rattle.aig_sim.proofs.witness.reader.push_rows.Given as goal

abbrev pub invariant-loop-frame : goal.invariant-loop-frame
invariant-loop-frame l = record {
  row : length l.row ≡ l.initial.rows.width;
  width : l.rows.width ≡ l.initial.rows.width;
  rows : (given : List (List Tern)) → length given ≡ l.frames → SpellsFrames l.initial.rows.width l.text given
      → (l.rest ≡ witness_rows_text (drop l._frame given)) × (l.rows.rows ≡ take l._frame given);
}
