use Rattle.aig_bench.proofs.passes.Puts.{new_work}
use Rattle.aig_bench.proofs.propagate.pending.Pending.new.Goals as goal

pub returns-clause-work : goal.returns-clause-work
returns-clause-work c =
    new_work c.args.driven.now c.args.fanouts.now c.in_ok-buckets.buckets c.requires.driven c.requires.fanouts.levels
    c.requires.fanouts.readers c.in_ok-buckets.ensures.heads c.in_ok-buckets.ensures.buckets c.in_ok-buckets.ensures.sides
    c.in_ok-buckets.ensures.empty
