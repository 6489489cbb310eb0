use Rattle.std.proofs.Common.{sym, ◌∙◌}
use Rattle.aig_cut.proofs.Walks.{dropped, kept}
use Rattle.aig_cut.proofs.parts.demanded.Goals as goal

pub returns-then-is_dropped : goal.returns-then-is_dropped
returns-then-is_dropped c = c.new.ensures ∙ sym (dropped c.args.is_dropped c.args.constraint c.if-is_dropped.true)

pub returns-else-is_dropped : goal.returns-else-is_dropped
returns-else-is_dropped c = sym (kept c.args.is_dropped c.args.constraint c.if-is_dropped.false)
