use Rattle.std.proofs.Common.{◌≡◌, length, slice_index}
use Rattle.aig_certificate.specs.state.Table.{AreEnteredTo}
use Rattle.aig_certificate.proofs.translation.enter.Given as goal

abbrev pub invariant-loop-place : goal.invariant-loop-place
invariant-loop-place l = record {
  size : length l.table ≡ length l.initial.table;
  constant : slice_index l.table 0 ≡ slice_index l.initial.table 0;
  entered : AreEnteredTo l.place l.table l.literals l.values;
}
