use Rattle.aig_parts.proofs.BitLemmas.{inserted}
use Rattle.aig_bench.proofs.queues.BitPlaces.{filled_now}
use Rattle.aig_bench.proofs.propagate.level_set.NumberSet.insert.Goals as goal

pub returns-clause-bits : goal.returns-clause-bits
returns-clause-bits c =
    inserted c.args.self.now.words.items c.args.number c.index_mut.result.now c.requires c.index_mut.ensures.value

pub returns-clause-filled : goal.returns-clause-filled
returns-clause-filled c =
    filled_now c.args.self.now.words.items c.args.number c.index_mut.result.now c.requires c.index_mut.ensures.value
