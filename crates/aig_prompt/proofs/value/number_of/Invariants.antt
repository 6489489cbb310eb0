use Rattle.std.proofs.Common.{◌≡◌, ◌<◌, ◌^◌, take, All}
use Rattle.aig_prompt.specs.Value.{IsDigit, numeral}
use Rattle.aig_prompt.proofs.value.number_of.Given as goal

abbrev pub invariant-loop-byte : goal.invariant-loop-byte
invariant-loop-byte l = record {
  so_far : (l.number ≡ numeral 10 (take l.byte-index l.digits)) × All (IsDigit 10) (take l.byte-index l.digits);
  small : l.number < 2 ^ 64;
}
