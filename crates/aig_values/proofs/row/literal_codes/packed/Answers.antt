use Rattle.std.proofs.Common.{arith}
use Rattle.aig_values.proofs.LiteralLemmas.{none_packed, packed_fits, packed_more, packed_one, packed_zero, twice_fits}
use Rattle.aig_values.proofs.row.literal_codes.packed.Goals as goal

pub loop-place-init : goal.loop-place-init
loop-place-init c = none_packed c.args.codes.now c.args.from

pub overflow_mul-word : goal.overflow_mul-word
overflow_mul-word c =
    let h = twice_fits c.args.codes.now c.args.from c.loop-place.place c.loop-place.word c.loop-place-test.true
    c.loop-place.invariant in
    omega (arith, h)

pub overflow_add-word : goal.overflow_add-word
overflow_add-word c =
    let h = packed_fits c.args.codes.now c.args.from c.loop-place.place c.loop-place.word c.index-codes-from.result
    c.loop-place-test.true c.requires c.index-codes-from.is c.loop-place.invariant c.spread.result c.spread.ensures in
    omega (arith, h)

pub loop-place-preserved : goal.loop-place-preserved
loop-place-preserved c =
    packed_more c.args.codes.now c.args.from c.loop-place.place c.loop-place.word c.index-codes-from.result
    c.loop-place-test.true c.requires c.index-codes-from.is c.loop-place.invariant c.spread.result c.spread.ensures

pub returns-clause-one : goal.returns-clause-one
returns-clause-one c k lt =
    packed_one c.args.codes.now c.args.from c.loop-place.place c.loop-place.word
    (omega (arith, c.loop-place-test.false, c.loop-place.auto.place-end)) c.loop-place.invariant k lt

pub returns-clause-zero : goal.returns-clause-zero
returns-clause-zero c k lt =
    packed_zero c.args.codes.now c.args.from c.loop-place.place c.loop-place.word
    (omega (arith, c.loop-place-test.false, c.loop-place.auto.place-end)) c.loop-place.invariant k lt
