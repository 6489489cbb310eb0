use Rattle.std.proofs.Common.{◌-◌, arith, refl, length}
use Rattle.aig_signals.proofs.ValueLemmas.{binary_all, binary_more}
use Rattle.aig_signals.proofs.value.push_binary.Goals as goal

pub loop-place-init : goal.loop-place-init
loop-place-init c = record {
  within = omega arith;
  text = binary_all c.args.bits.now c.args.text.now.items (length c.args.bits.now) refl;
}

pub loop-place-preserved : goal.loop-place-preserved
loop-place-preserved c =
    let n = c.loop-place.place in
    record {
      within = omega (arith, c.loop-place.invariant.within);
      text = binary_more c.args.bits.now c.loop-place.text.items c.push.new.self.items _ (n - 1) n _ _
          (omega (arith, c.loop-place-test.true)) (omega (arith, c.loop-place-test.true, c.loop-place.invariant.within))
          c.bit_letter.ensures c.in_ok-push.ensures.items c.loop-place.invariant.text;
    }
