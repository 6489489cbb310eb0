use Rattle.std.proofs.Common.{◌≡◌, ◌≤◌, length, drop, All}
use Rattle.aig_prompt.specs.Value.{IsDigit, digits_bits}
use Rattle.aig_prompt.specs.state.Gathered.{Gathers}
use Rattle.aig_prompt.proofs.value.hexadecimal_value.Given as goal

abbrev pub invariant-loop-place : goal.invariant-loop-place
invariant-loop-place l = record {
  within : l.place ≤ length l.digits;
  width : l.bits.width ≡ l.width;
  gathered : Gathers (digits_bits (drop l.place l.digits)) l.bits;
  digits : All (IsDigit 16) (drop l.place l.digits);
}

abbrev pub decreases-loop-place : goal.decreases-loop-place
decreases-loop-place l = l.place
