use Rattle.std.proofs.Common.{◌∙◌, arith}
use Rattle.aig_signals.proofs.JsonLemmas.{opened_none, opened_some}
use Rattle.aig_signals.proofs.json.open_array.Goals as goal

pub returns-in_ok-push : goal.returns-in_ok-push
returns-in_ok-push c =
    c.in_ok-push.ensures.items ∙ opened_none c.args.text.now.items c.args.before (omega (arith, c.if-len-before.true, c.len.ensures))

pub returns-else-len-before : goal.returns-else-len-before
returns-else-len-before c =
    opened_some c.args.text.now.items c.args.before (omega (arith, c.requires, c.if-len-before.false, c.len.ensures))
