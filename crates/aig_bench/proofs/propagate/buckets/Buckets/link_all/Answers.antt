use Rattle.std.proofs.Common.{◌∙◌}
use Rattle.std.proofs.lemmas.List.{with_items_is}
use Rattle.aig_bench.proofs.propagate.buckets.Buckets.link_all.Goals as goal

pub link_all-requires : goal.link_all-requires
link_all-requires c = rw c.deref_mut.ensures.value c.requires

pub returns-clause-buckets : goal.returns-clause-buckets
returns-clause-buckets c levels h =
    let same = with_items_is c.args.self.now.head c.link_all.new.head (c.link_all.ensures.links.heads ∙ c.deref_mut.ensures.len) in
    rw same (c.link_all.ensures.queues levels (rw c.deref_mut.ensures.value h))

pub returns-clause-links : goal.returns-clause-links
returns-clause-links c =
    let same = with_items_is c.args.self.now.head c.link_all.new.head (c.link_all.ensures.links.heads ∙ c.deref_mut.ensures.len) in
    rw same (rw c.deref_mut.ensures.value at c.link_all.ensures.links)
