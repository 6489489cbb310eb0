use Rattle.std.proofs.Common.{◌∙◌, sym}
use Rattle.std.proofs.lemmas.Grind.{get_or_default_zero}
use Rattle.aig_bench.proofs.queues.Chained.{first_is}
use Rattle.aig_bench.proofs.propagate.buckets.Buckets.first.Goals as goal

pub returns : goal.returns
returns c levels h =
    first_is levels _ _ _ h.chained c.args.level c.requires c.index.result.now
    (sym (c.index.ensures ∙ get_or_default_zero c.args.self.now.head.items c.args.level c.index.result.now c.requires))
