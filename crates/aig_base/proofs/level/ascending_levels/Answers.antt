use Rattle.std.proofs.Common.{arith}
use Rattle.aig_base.proofs.levels.FirstLevels.{first_all}
use Rattle.aig_base.proofs.level.ascending_levels.Goals as goal

pub returns : goal.returns
returns c =
    first_all c.args.circuit.now c.loop-variable.levels.items c.max_var-max_var.ensures.circuit.sound
    (omega (
      arith,
      c.loop-variable-test.false,
      c.loop-variable.invariant.size,
      c.loop-variable.auto.variable-end,
      c.max_var-max_var.ensures.value,
    ))
    c.loop-variable.invariant.first
