use Rattle.std.proofs.Common.{◌+◌, ◌<◌, ◌≤◌, length}
use Rattle.aig_parts.specs.Formed.{limit}
use Rattle.aig_bench.specs.state.Buckets.{IsFirst}
use Rattle.aig_bench.specs.state.Steps.{SettlesLevels}
use Rattle.aig_bench.specs.state.Sweep.{queued_count}
use Rattle.aig_bench.proofs.engine.Engine.settle_level.Given as goal

abbrev pub invariant-loop-first : goal.invariant-loop-first
invariant-loop-first g l = record {
  frame : l.frame < length l.self.pair.rows;
  level : l.level < length l.self.levels;
  bound : queued_count l.initial.self.levels l.self.queued l.level + l.report.evaluated ≤ limit + 1;
  first : IsFirst l.self.levels l.self.heads l.self.queued l.level l.first;
  settles : SettlesLevels l.frame l.level l.level l.initial.self l.self l.report;
}

abbrev pub decreases-loop-first : goal.decreases-loop-first
decreases-loop-first g l = queued_count l.initial.self.levels l.self.queued l.level
