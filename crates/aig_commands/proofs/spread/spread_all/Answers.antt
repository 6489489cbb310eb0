use Rattle.std.proofs.Common.{ap, sym, ◌∙◌, length}
use Rattle.aig_cnf.proofs.Picked.{length-spread}
use Rattle.aig_commands.proofs.spread.spread_all.Goals as goal

pub push-requires-clause-width : goal.push-requires-clause-width
push-requires-clause-width c =
    ap length (c.deref.ensures.value ∙ c.in_ok-row.ensures)
    ∙ length-spread c.args.reads.now c.args.unread.now c.row.result.now (sym c.requires.marks) ∙ c.requires.marks
    ∙ sym c.loop-frame.invariant.width
