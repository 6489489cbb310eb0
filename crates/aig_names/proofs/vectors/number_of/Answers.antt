use Rattle.std.proofs.Common.{arith}
use Rattle.std.proofs.lemmas.Str.Parse.{digits_value-take-le}
use Rattle.aig_names.proofs.Indices.{index_parts, digit_is, index_small, number_more}
use Rattle.aig_names.proofs.vectors.number_of.Goals as goal

pub overflow_mul-number : goal.overflow_mul-number
overflow_mul-number c =
    let more = number_more c.args.digits.now c.loop-digit.digit-index c.requires c.loop-digit-test.true in
    omega (arith, more.0, more.1, c.loop-digit.invariant)

pub overflow_sub-digit : goal.overflow_sub-digit
overflow_sub-digit c =
    let parts = index_parts c.args.digits.now c.requires in
    (digit_is c.args.digits.now c.loop-digit.digit-index parts.0 c.loop-digit-test.true).0

pub overflow_add-number : goal.overflow_add-number
overflow_add-number c =
    let more = number_more c.args.digits.now c.loop-digit.digit-index c.requires c.loop-digit-test.true in
    omega (arith, more.0, more.1, c.loop-digit.invariant, c.from.ensures)

pub loop-digit-preserved : goal.loop-digit-preserved
loop-digit-preserved c =
    let more = number_more c.args.digits.now c.loop-digit.digit-index c.requires c.loop-digit-test.true in
    omega (arith, more.0, c.loop-digit.invariant, c.from.ensures)

pub returns-clause-small : goal.returns-clause-small
returns-clause-small c =
    let le = digits_value-take-le 10 c.args.digits.now c.loop-digit.digit-index (omega arith) in
    let small = index_small c.args.digits.now c.requires in
    omega (arith, le, small, c.loop-digit.invariant)
