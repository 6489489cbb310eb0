use Rattle.std.proofs.Common.{◌-◌, arith}
use Rattle.aig_signals.proofs.ValueLemmas.{digits_more}
use Rattle.aig_signals.proofs.value.push_hexadecimal.Goals as goal

pub loop-count-preserved : goal.loop-count-preserved
loop-count-preserved c =
    let n = c.loop-count.count in
    record {
      within = omega (arith, c.loop-count.invariant.within, c.loop-count-test.true);
      text = digits_more c.args.bits.now c.loop-count.text.items c.push.new.self.items _ (n - 1) n _
          (omega (arith, c.loop-count-test.true)) c.digit_at.ensures c.in_ok-push.ensures.items c.loop-count.invariant.text;
    }
