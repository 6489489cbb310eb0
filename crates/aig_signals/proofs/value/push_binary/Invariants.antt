use Rattle.std.proofs.Common.{◌≡◌, ◌++◌, ◌≤◌, length, take, map}
use Rattle.std.specs.Prelude.{reverse}
use Rattle.aig_signals.specs.Value.{bit_letter, binary}
use Rattle.aig_signals.proofs.value.push_binary.Given as goal

abbrev pub invariant-loop-place : goal.invariant-loop-place
invariant-loop-place l = record {
  within : l.place ≤ length l.bits;
  text : l.text.items ++ reverse (map bit_letter (take l.place l.bits)) ≡ l.fn.text.items ++ binary l.bits;
}

abbrev pub decreases-loop-place : goal.decreases-loop-place
decreases-loop-place l = l.place
