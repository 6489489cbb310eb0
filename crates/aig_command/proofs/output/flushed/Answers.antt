use Rattle.std.proofs.Common.{arith}
use Rattle.aig_command.specs.Flushed.{flushes, fails}
use Rattle.aig_command.proofs.output.flushed.Goals as goal

pub returns-in-Ok-clause-answer : goal.returns-in-Ok-clause-answer
returns-in-Ok-clause-answer g c = flushes c.in-Ok.ensures.kept (omega (arith, c.in-Ok.ensures.count))

pub returns-in-Err-clause-answer : goal.returns-in-Err-clause-answer
returns-in-Err-clause-answer g c = fails c.in-Err.ensures.kept c.in-Err.ensures.count
