use Rattle.std.proofs.Common.{◌≡◌, ◌<◌, ◌≤◌, ◌++◌, ◌-◌, ◌^◌, take, length}
use Rattle.std.specs.Fmt.{decimal}
use Rattle.aig_script.proofs.command.longer_number.Given as goal

abbrev pub invariant-loop-at : goal.invariant-loop-at
invariant-loop-at l = record {
  some : 0 < l.number;
  fits : l.number < 2 ^ 32;
  within : l.at ≤ length l.bytes;
  spelled : decimal l.first ++ take l.at l.bytes ≡ decimal l.number;
}

abbrev pub decreases-loop-at : goal.decreases-loop-at
decreases-loop-at l = length l.bytes - l.at
