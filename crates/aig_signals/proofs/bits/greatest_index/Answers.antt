use Rattle.aig_signals.proofs.BitLemmas.{greatest_more}
use Rattle.aig_signals.proofs.bits.greatest_index.Goals as goal

pub loop-bit-preserved : goal.loop-bit-preserved
loop-bit-preserved c =
    greatest_more c.args.first.index c.loop-bit.greatest _ c.args.more.now c.loop-bit.bit-index c.bit-item.result c.loop-bit-test.true
    c.bit-item.is c.max-greatest.ensures c.loop-bit.invariant
