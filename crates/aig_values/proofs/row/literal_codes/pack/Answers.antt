use Rattle.std.proofs.Common.{◌+◌, ◌*◌, ◌%◌, set, refl, sym, subst, arith}
use Rattle.aig_values.proofs.LiteralLemmas.{HaveCells, cells_more, packed_row, packed_whole}
use Rattle.aig_values.proofs.row.literal_codes.pack.Goals as goal

pub loop-place-init : goal.loop-place-init
loop-place-init c = record { of_one = λ v lt. absurd (omega arith); of_zero = λ v lt. absurd (omega arith) }

pub loop-place-preserved : goal.loop-place-preserved
loop-place-preserved c =
    let words = c.loop-place.words in
    let codes = c.args.codes.now in
    let place = c.loop-place.place in
    subst (λ word. HaveCells (set words place word) codes (place + 1)) (sym c.rotate_right.ensures)
    (cells_more words codes place c.packed.result (32 * (place % 2))
    (omega (arith, c.loop-place-test.true, c.loop-place.auto.words)) c.packed.type_inv refl c.loop-place.invariant
    c.packed.ensures.one c.packed.ensures.zero)

pub returns-clause-whole : goal.returns-clause-whole
returns-clause-whole c =
    packed_whole c.loop-place.words c.args.codes.now c.loop-place.place c.loop-place.invariant
    (omega (arith, c.loop-place-test.false, c.loop-place.auto.words))

pub returns-clause-cells : goal.returns-clause-cells
returns-clause-cells c row e =
    packed_row c.loop-place.words c.args.codes.now c.loop-place.place c.loop-place.invariant
    (omega (arith, c.loop-place-test.false, c.loop-place.auto.words)) row (omega (arith, c.requires, c.loop-place.auto.words)) e
