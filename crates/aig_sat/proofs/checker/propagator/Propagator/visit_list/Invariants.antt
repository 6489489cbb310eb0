use Rattle.std.proofs.Common.{◌≤◌, ◌≡◌, length}
use Rattle.aig_sat.specs.checker.Agreement.{Propagates}
use Rattle.aig_sat.proofs.checker.propagator.Propagator.visit_list.Given as goal

abbrev pub invariant-loop-place : goal.invariant-loop-place
invariant-loop-place l = record {
  propagates : Propagates l.initial.self l.self;
  len : length l.list.items ≡ length l.initial.list.items;
  kept : l.kept ≤ l.place;
}
