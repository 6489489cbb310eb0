use Rattle.std.proofs.Common.{arith}
use Rattle.std.proofs.lemmas.Grind.{common_steps}
use Rattle.aig_unroll.specs.state.FrameTable.{number_literal}
use Rattle.aig_unroll.proofs.unrolling.frame_literals.number_literal.Goals as goal

pub returns-then-definitions-number : goal.returns-then-definitions-number
unfolding number_literal
returns-then-definitions-number c = grind (arith, common_steps)

pub returns-then-plan-number : goal.returns-then-plan-number
unfolding number_literal
returns-then-plan-number c = grind (arith, common_steps)

pub returns-then-number-gt0 : goal.returns-then-number-gt0
unfolding number_literal
returns-then-number-gt0 c = grind (arith, common_steps)

pub returns-else-number-gt0 : goal.returns-else-number-gt0
unfolding number_literal
returns-else-number-gt0 c = grind (arith, common_steps)
