use Rattle.std.proofs.Common.{◌∙◌, ◌-◌, ℕ, List, length, length-set}
use Rattle.aig_signals.proofs.BitLemmas.{table_all, table_step}
use Rattle.aig_signals.proofs.bits.table_of.Goals as goal

pub loop-bit-preserved : goal.loop-bit-preserved
loop-bit-preserved c = record {
  size = length-set c.loop-bit.table.items (c.bit-item.result.index - c.args.first) c.or.result ∙ c.loop-bit.invariant.size;
  each = table_step c.args.first c.args.size c.loop-bit.bit-index c.args.bits.now c.bit-item.result c.loop-bit.table.items c.or.result
      c.index.result.now c.loop-bit-test.true c.bit-item.is c.requires c.loop-bit.invariant.size c.index.ensures c.or.ensures
      c.loop-bit.invariant.each;
}

pub returns : goal.returns
returns c = table_all c.args.first c.args.size c.loop-bit.bit-index c.args.bits.now c.loop-bit.table.items c.loop-bit-test.false
    c.loop-bit.invariant.size c.loop-bit.invariant.each
