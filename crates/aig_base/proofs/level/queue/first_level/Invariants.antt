use Rattle.aig_base.specs.state.Queue.{IsEmptyBelow}
use Rattle.aig_base.proofs.level.queue.first_level.Given as goal

abbrev pub invariant-loop-level : goal.invariant-loop-level
invariant-loop-level l = IsEmptyBelow l.head l.level
