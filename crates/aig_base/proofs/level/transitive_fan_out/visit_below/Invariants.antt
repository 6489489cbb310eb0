use Rattle.std.proofs.Common.{take}
use Rattle.aig_base.specs.state.Rewires.{LooksAt}
use Rattle.aig_base.specs.state.Visits.{VisitsAmong}
use Rattle.aig_base.proofs.level.transitive_fan_out.visit_below.Given as goal

abbrev pub invariant-loop-reader : goal.invariant-loop-reader
invariant-loop-reader l = record {
  among : VisitsAmong (take l.reader-index l.list) l.initial.visits l.visits;
  looked : LooksAt (take l.reader-index l.list) l.levels l.sought.first l.sought.second l.sought.bound l.visits;
}
