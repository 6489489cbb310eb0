use Rattle.std.proofs.Common.{◌*◌, ◌≤◌}
use Rattle.aig_bench.specs.state.Renewed.{RenewsUpTo}
use Rattle.aig_bench.specs.state.Steps.{frame_work}
use Rattle.aig_bench.proofs.engine.Engine.renew_from.Given as goal

abbrev pub invariant-loop-frame : goal.invariant-loop-frame
invariant-loop-frame g l = record {
  bound : l.report.evaluated ≤ l.frame * frame_work;
  renews : RenewsUpTo l.forced l.first l.frame l.initial.self l.self l.report;
}
