use Rattle.std.proofs.Common.{refl}
use Rattle.aig_bench.proofs.growing.Lengthened.{buckets_longer, unmarked_pushed}
use Rattle.aig_bench.proofs.propagate.buckets.Buckets.add_variable.Goals as goal

pub returns-clause-buckets : goal.returns-clause-buckets
returns-clause-buckets c levels h =
    buckets_longer levels c.args.self.now h c.requires.empty c.args.level _ _ _ c.requires.room.occupied c.requires.room.few
    c.push_reserved.ensures.items c.push.ensures.next c.push.ensures.marks c.push.ensures.levels refl

pub returns-clause-empty : goal.returns-clause-empty
returns-clause-empty c = unmarked_pushed c.args.self.now.marks.items _ c.push.ensures.marks c.requires.empty
