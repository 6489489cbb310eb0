use Rattle.std.proofs.Common.{sym, ◌∙◌}
use Rattle.aig_bytes.proofs.Results.{on_err}
use Rattle.aig_prompt.proofs.ValueLemmas.{numeral_more, numeral_all, numeral_refused}
use Rattle.aig_prompt.proofs.value.number_of.Goals as goal

pub loop-byte-preserved : goal.loop-byte-preserved
loop-byte-preserved c = record {
  so_far = numeral_more c.args.digits.now c.loop-byte.byte-index c.loop-byte.number _ c.loop-byte-test.true c.loop-byte.invariant.so_far
      c.in_ok-number.ensures.more;
  small = c.in_ok-number.ensures.small;
}

pub returns : goal.returns
returns c = record {
  number = numeral_all c.args.digits.now c.loop-byte.byte-index c.loop-byte.number c.loop-byte-test.false
      (sym c.is_empty.ensures ∙ c.if-is_empty.false) c.loop-byte.invariant.so_far;
  small = c.loop-byte.invariant.small;
  refused = tt;
}

pub returns-in_err-number-clause-refused : goal.returns-in_err-number-clause-refused
returns-in_err-number-clause-refused c =
    on_err c.from_residual.result (numeral_refused c.args.digits.now c.loop-byte.byte-index c.loop-byte.number
    c.loop-byte-test.true c.loop-byte.invariant.so_far.0 c.in_err-number.ensures.refused)
