use Rattle.std.proofs.Common.{◌+◌, take, sym, subst}
use Rattle.aig_shell.specs.Edits.{ArePositions}
use Rattle.aig_shell.proofs.words.Zips.{positions_more, no_positions}
use Rattle.aig_shell.proofs.session.positions_of.Goals as goal

pub returns-in-None-clause-none : goal.returns-in-None-clause-none
returns-in-None-clause-none c =
    no_positions c.args.circuit.now c.loop-literal.literal-index c.args.literals.now c.literal-item.result c.loop-literal-test.true
    c.literal-item.is c.in-None.ensures.none

pub loop-literal-preserved : goal.loop-literal-preserved
loop-literal-preserved c =
    let more =
    positions_more c.args.circuit.now c.loop-literal.literal-index c.args.literals.now c.loop-literal.positions.items c.literal-item.result
    c.in-Some.position c.loop-literal-test.true c.literal-item.is c.loop-literal.invariant c.in-Some.ensures.some in
    subst (ArePositions c.args.circuit.now (take (c.loop-literal.literal-index + 1) c.args.literals.now))
    (sym c.in_ok-push-in-Some.ensures.items) more
