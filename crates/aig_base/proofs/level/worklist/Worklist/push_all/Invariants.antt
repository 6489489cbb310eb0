use Rattle.std.proofs.Common.{take}
use Rattle.aig_base.specs.state.Rewires.{Queues}
use Rattle.aig_base.proofs.level.worklist.Worklist.push_all.Given as goal

abbrev pub invariant-loop-reader : goal.invariant-loop-reader
invariant-loop-reader l =
    Queues (take l.reader-index l.list) l.levels l.initial.self.visits l.self.visits l.initial.self.queue l.self.queue
