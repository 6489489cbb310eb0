use Rattle.std.proofs.Common.{◌≡◌, ◌+◌, ◌≤◌, length, drop, map, Some}
use Rattle.std.specs.Prelude.{reverse}
use Rattle.aig_prompt.specs.Value.{letter_value}
use Rattle.aig_prompt.proofs.value.binary_value.Given as goal

abbrev pub invariant-loop-place : goal.invariant-loop-place
invariant-loop-place l = record {
  within : l.place ≤ length l.letters;
  size : length l.values.items + l.place ≡ length l.letters;
  letters : map letter_value (drop l.place l.letters) ≡ map Some (reverse l.values.items);
}

abbrev pub decreases-loop-place : goal.decreases-loop-place
decreases-loop-place l = l.place
