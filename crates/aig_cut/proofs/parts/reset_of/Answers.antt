use Rattle.std.proofs.Common.{sym, ◌∙◌}
use Rattle.aig_cut.specs.state.Marks.{marked}
use Rattle.aig_cut.proofs.Walks.{any_reset, own_reset}
use Rattle.aig_cut.proofs.parts.reset_of.Goals as goal

pub returns-then-starts : goal.returns-then-starts
returns-then-starts c =
    sym (any_reset ((marked c.args.marks.now).starts c.args.latch.now.lit) c.args.latch.now (sym c.starts.ensures ∙ c.if-starts.true))

pub returns-else-starts : goal.returns-else-starts
returns-else-starts c =
    sym (own_reset ((marked c.args.marks.now).starts c.args.latch.now.lit) c.args.latch.now (sym c.starts.ensures ∙ c.if-starts.false))
