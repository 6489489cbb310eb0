use Rattle.std.proofs.Common.{arith}
use Rattle.aig_shell.proofs.words.Zips.{latches_more, no_latches, latches_all}
use Rattle.aig_shell.proofs.session.are_latches.Goals as goal

pub returns-then-not-is_latch : goal.returns-then-not-is_latch
returns-then-not-is_latch c =
    no_latches c.args.circuit.now c.loop-literal.literal-index c.args.literals.now c.literal-item.result c.is_latch.result
    c.loop-literal-test.true c.literal-item.is c.if-not-is_latch.true c.is_latch.ensures

pub loop-literal-preserved : goal.loop-literal-preserved
loop-literal-preserved c =
    latches_more c.args.circuit.now c.loop-literal.literal-index c.args.literals.now c.literal-item.result c.is_latch.result
    c.loop-literal-test.true c.literal-item.is c.loop-literal.invariant c.if-not-is_latch.false c.is_latch.ensures

pub returns : goal.returns
returns c =
    latches_all c.args.circuit.now c.loop-literal.literal-index c.args.literals.now (omega (arith, c.loop-literal-test.false))
    c.loop-literal.invariant
