use Rattle.std.proofs.Common.{arith}
use Rattle.aig_bench.proofs.queues.BitPlaces.{none_at_all}
use Rattle.aig_bench.proofs.propagate.level_set.NumberSet.first_from.Goals as goal

pub returns : goal.returns
returns c =
    none_at_all c.args.self.now.words.items c.args.from c.loop-word.word c.loop-word.invariant.none (omega arith)
