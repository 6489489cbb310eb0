use Rattle.aig_signals.proofs.BitLemmas.{least_more}
use Rattle.aig_signals.proofs.bits.least_index.Goals as goal

pub loop-bit-preserved : goal.loop-bit-preserved
loop-bit-preserved c =
    least_more c.args.first.index c.loop-bit.least _ c.args.more.now c.loop-bit.bit-index c.bit-item.result c.loop-bit-test.true
    c.bit-item.is c.min-least.ensures c.loop-bit.invariant
