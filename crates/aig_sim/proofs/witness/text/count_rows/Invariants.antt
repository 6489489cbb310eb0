use Rattle.std.proofs.Common.{◌≡◌, ◌++◌, ◌≤◌, ◌+◌, List, length}
use Rattle.std.specs.List.{flat_map}
use Rattle.aig_parts.specs.declared.ternary.Tern.{Tern}
use Rattle.aig_values.specs.InputRows.{HaveWidth}
use Rattle.aig_sim.specs.StimulusText.{row_line}
use Rattle.aig_sim.proofs.witness.text.count_rows.Given as goal

abbrev pub invariant-loop-rest : goal.invariant-loop-rest
invariant-loop-rest l = record {
  so_far : (rows : List (List Tern)) × (length rows ≡ l.frames) × HaveWidth l.width rows
      × (l.text ≡ flat_map row_line rows ++ l.rest);
  bound : l.frames + length l.rest ≤ length l.text;
}

abbrev pub decreases-loop-rest : goal.decreases-loop-rest
decreases-loop-rest l = length l.rest
