use Rattle.aig_base.proofs.fan_outs.ReaderLists.{adds_two, adds_once}
use Rattle.aig_base.proofs.readers.fan_out_lists.add_to_lists.Goals as goal

pub returns-then-second-first-clause-adds : goal.returns-then-second-first-clause-adds
returns-then-second-first-clause-adds c = adds_once c.args.first c.args.second c.args.gate _ _ c.if-second-first.true
    c.add-place.ensures.adds

pub returns-clause-adds : goal.returns-clause-adds
returns-clause-adds c = adds_two c.args.first c.args.second c.args.gate _ _ _ c.if-second-first.false
    c.add-place.ensures.adds c.add.ensures.adds
