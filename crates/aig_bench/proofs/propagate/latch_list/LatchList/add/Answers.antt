use Rattle.std.proofs.Common.{◌∙◌}
use Rattle.std.proofs.lemmas.List.{length-set}
use Rattle.aig_bench.proofs.queues.Chained.{unmarked_read}
use Rattle.aig_bench.proofs.carries.LatchLists.{list_linked, list_queued}
use Rattle.aig_bench.proofs.propagate.latch_list.LatchList.add.Goals as goal

pub returns-clause-list : goal.returns-clause-list
returns-clause-list c n h = record {
  size = length-set _ _ _ ∙ h.size;
  chained = list_linked n _ _ _ h.size h.chained c.args.latch c.requires.positive c.requires.inside
      (unmarked_read c.args.self.now.marks.items c.args.latch _ c.index.ensures c.if-index.false);
}

pub returns-clause-adds : goal.returns-clause-adds
returns-clause-adds c =
    let (n, h) = c.requires.list in
    list_queued n _ _ _ h.size h.chained c.args.latch c.requires.positive c.requires.inside
    (unmarked_read c.args.self.now.marks.items c.args.latch _ c.index.ensures c.if-index.false)
