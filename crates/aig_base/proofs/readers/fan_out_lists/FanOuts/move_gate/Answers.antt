use Rattle.aig_base.proofs.fan_outs.ReaderLists.{gone_after}
use Rattle.aig_base.proofs.readers.fan_out_lists.FanOuts.move_gate.Goals as goal

pub add_to_both-requires-clause-absent : goal.add_to_both-requires-clause-absent
add_to_both-requires-clause-absent c = rw c.var-number.ensures
    (gone_after c.args.self.now.slots c.take_out.new.self.slots c.take_out-2.new.self.slots c.var.result c.var-2.result _
    (rw c.var-number.ensures at c.take_out.ensures) (rw c.var-number.ensures at c.take_out-2.ensures)
    (rw (c.var.ensures, c.var-2.ensures) c.requires.elsewhere))
