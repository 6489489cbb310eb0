use Rattle.std.proofs.Common.{◌≡◌, length, take}
use Rattle.aig_values.proofs.stimulus.write_over.Given as goal

abbrev pub invariant-loop-place : goal.invariant-loop-place
invariant-loop-place l = record {
  size : length l.copy ≡ length l.row;
  written : take l.place l.copy ≡ take l.place l.row;
}
