use Rattle.std.proofs.Common.{sym, ◌∙◌}
use Rattle.aig_certificate.proofs.SaidPairs.{entered_all, entered_more, entered_twice}
use Rattle.aig_certificate.proofs.sharing.said_by.Goals as goal

pub returns-then-is_some-clause-refused : goal.returns-then-is_some-clause-refused
returns-then-is_some-clause-refused c =
    entered_twice c.args.pairs.now c.args.variables c.loop-pair.pair-index c.pair-item.result c.loop-pair.said c.var-variable.result
    c.index.result.now c.requires c.loop-pair-test.true c.pair-item.is c.var-variable.ensures c.index.ensures
    (sym c.is_some.ensures ∙ c.if-is_some.true) c.loop-pair.invariant

pub loop-pair-preserved : goal.loop-pair-preserved
loop-pair-preserved c =
    entered_more c.args.pairs.now c.args.variables c.loop-pair.pair-index c.pair-item.result c.loop-pair.said c.set.new.self
    c.var-variable.result c.of_variable.result c.index.result.now c.requires c.loop-pair-test.true c.pair-item.is c.var-variable.ensures
    c.index.ensures (sym c.is_some.ensures ∙ c.if-is_some.false) c.of_variable.ensures c.set.ensures c.loop-pair.invariant

pub returns-clause-said : goal.returns-clause-said
returns-clause-said c =
    (entered_all c.args.pairs.now c.args.variables c.loop-pair.pair-index c.loop-pair.said c.loop-pair-test.false
    c.loop-pair.invariant).said

pub returns-clause-once : goal.returns-clause-once
returns-clause-once c =
    (entered_all c.args.pairs.now c.args.variables c.loop-pair.pair-index c.loop-pair.said c.loop-pair-test.false
    c.loop-pair.invariant).once
