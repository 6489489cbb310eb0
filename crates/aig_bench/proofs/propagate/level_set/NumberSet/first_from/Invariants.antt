use Rattle.std.proofs.Common.{◌+◌, ◌*◌, ◌/◌, ◌≤◌}
use Rattle.aig_bench.specs.state.LevelSet.{HasNone}
use Rattle.aig_bench.proofs.propagate.level_set.NumberSet.first_from.Given as goal

abbrev pub invariant-loop-word : goal.invariant-loop-word
invariant-loop-word l = record {
  from : l.from / 64 + 1 ≤ l.word;
  none : HasNone l.self.words.items l.from (l.word * 64);
}
