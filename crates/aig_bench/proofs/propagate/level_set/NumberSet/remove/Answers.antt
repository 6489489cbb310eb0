use Rattle.aig_bench.proofs.queues.BitPlaces.{removed}
use Rattle.aig_bench.proofs.propagate.level_set.NumberSet.remove.Goals as goal

pub returns-clause-bits : goal.returns-clause-bits
returns-clause-bits c =
    removed c.args.self.now.words.items c.args.number c.index.result.now c.requires c.index.ensures
