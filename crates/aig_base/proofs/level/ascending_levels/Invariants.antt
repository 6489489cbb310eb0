use Rattle.std.proofs.Common.{◌≡◌, length}
use Rattle.aig_base.specs.state.Descent.{AreFirstLevels}
use Rattle.aig_base.proofs.level.ascending_levels.Given as goal

abbrev pub invariant-loop-variable : goal.invariant-loop-variable
invariant-loop-variable l = record {
  size : length l.levels.items ≡ l.variable;
  first : AreFirstLevels l.circuit l.levels.items;
}
