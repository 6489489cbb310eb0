use Rattle.std.proofs.Common.{◌≡◌, ◌≤◌, length}
use Rattle.aig_sat.proofs.checker.watches.close_gap.Given as goal

abbrev pub invariant-loop-place : goal.invariant-loop-place
invariant-loop-place l = record {
  len : length l.list.items ≡ length l.initial.list.items;
  behind : l.end ≤ l.place;
}
