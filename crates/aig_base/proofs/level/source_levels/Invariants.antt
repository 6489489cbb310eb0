use Rattle.std.proofs.Common.{◌≡◌, length}
use Rattle.aig_base.specs.state.Descent.{AreFirstLevels}
use Rattle.aig_base.proofs.level.source_levels.Given as goal

abbrev pub invariant-loop : goal.invariant-loop
invariant-loop l = record {
  size : length l.levels.items ≡ l.counter;
  first : AreFirstLevels l.circuit l.levels.items;
}
