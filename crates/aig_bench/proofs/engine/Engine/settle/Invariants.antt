use Rattle.std.proofs.Common.{◌+◌, ◌-◌, ◌*◌, ◌<◌, ◌≤◌, length}
use Rattle.aig_parts.specs.Formed.{limit}
use Rattle.aig_bench.specs.state.Steps.{SettlesLevels}
use Rattle.aig_bench.proofs.engine.Engine.settle.Given as goal

abbrev pub invariant-loop-level : goal.invariant-loop-level
invariant-loop-level g l = record {
  frame : l.frame < length l.self.pair.rows;
  from : l.from ≤ length l.initial.self.levels;
  bound : l.report.evaluated ≤ l.from * (limit + 1);
  settles : SettlesLevels l.frame 0 l.from l.initial.self l.self l.report;
}

abbrev pub decreases-loop-level : goal.decreases-loop-level
decreases-loop-level g l = length l.initial.self.levels - l.from
