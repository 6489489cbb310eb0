use Rattle.std.proofs.Common.{◌≡◌, ℕ, ◌+◌, ◌-◌, ◌*◌, ◌<◌, ◌≤◌, length, get_or}
use Rattle.aig_parts.specs.declared.ternary.Tern.TheVariants.{X}
use Rattle.aig_values.specs.Characters.{character}
use Rattle.aig_values.specs.state.Words.{spelled}
use Rattle.aig_values.proofs.row.plane_row.spell_cells.Given as goal

abbrev pub invariant-loop-at : goal.invariant-loop-at
invariant-loop-at l = record {
  place : l.place < 32;
  is : l.at < length l.text → 32 * l.index + l.place ≡ l.first + l.at;
  inside : l.at ≤ length l.text;
  text : (k : ℕ) → k < l.at → get_or l.text k 0 ≡ character (get_or (spelled l.words) (l.first + k) X);
}

abbrev pub decreases-loop-at : goal.decreases-loop-at
decreases-loop-at l = length l.text - l.at
