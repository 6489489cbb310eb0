use Rattle.std.proofs.Common.{ℕ, ◌+◌, ◌++◌, drop, ap, ◌∙◌, arith}
use Rattle.aig_certificate.proofs.Entered.{next_within, values_all, values_more}
use Rattle.aig_certificate.specs.state.Table.{values_from}
use Rattle.aig_certificate.proofs.translation.values.Goals as goal

pub loop-meaning-preserved : goal.loop-meaning-preserved
loop-meaning-preserved c =
    let v = c.loop-meaning.invariant in
    let ms = c.args.meanings.now in
    let i = c.loop-meaning.meaning-index in
    let m = c.meaning-item.result in
    record {
      next = omega (arith, v.next, next_within c.loop-meaning.next m, c.next_after-next.ensures);
      values = ap (λ (n : ℕ). c.push.new.self ++ values_from n (drop (i + 1) ms)) c.next_after-next.ensures
          ∙ values_more c.loop-meaning.next ms i m c.loop-meaning.values c.push.new.self (values_from c.args.first ms)
          c.value_of.result c.loop-meaning-test.true c.meaning-item.is c.value_of.ensures c.in_ok-push.ensures.ok v.values;
    }

pub returns : goal.returns
returns c =
    values_all c.loop-meaning.next c.args.meanings.now c.loop-meaning.meaning-index c.loop-meaning.values
    (values_from c.args.first c.args.meanings.now) c.loop-meaning-test.false c.loop-meaning.invariant.values
