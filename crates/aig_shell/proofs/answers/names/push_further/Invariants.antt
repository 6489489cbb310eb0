use Rattle.std.proofs.Common.{length}
use Rattle.aig_shell.proofs.answers.names.push_further.Given as goal

abbrev pub decreases-loop-next : goal.decreases-loop-next
decreases-loop-next l = length l.rest
