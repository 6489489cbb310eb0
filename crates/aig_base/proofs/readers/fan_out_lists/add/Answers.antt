use Rattle.aig_base.proofs.fan_outs.ListPlaceLemmas.{stands_new}
use Rattle.aig_base.proofs.fan_outs.ReaderLists.{fits_within}
use Rattle.aig_base.proofs.readers.fan_out_lists.add.Goals as goal

pub returns-clause-stands : goal.returns-clause-stands
returns-clause-stands c = rw (c.push.ensures.slots, c.list.ensures)
    (stands_new c.args.lists.now.slots c.args.variable c.args.gate
    (fits_within c.args.lists.now.slots c.args.variable c.requires.room))
