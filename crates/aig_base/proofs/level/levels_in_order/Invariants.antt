use Rattle.std.proofs.Common.{◌≡◌, ◌+◌, length}
use Rattle.aig_base.specs.state.Descent.{AreFirstLevels}
use Rattle.aig_base.proofs.level.levels_in_order.Given as goal

abbrev pub invariant-loop-gate : goal.invariant-loop-gate
invariant-loop-gate l = record {
  size : length l.levels.items ≡ 1 + length l.circuit.inputs + length l.circuit.latches + l.gate-index;
  first : AreFirstLevels l.circuit l.levels.items;
}
