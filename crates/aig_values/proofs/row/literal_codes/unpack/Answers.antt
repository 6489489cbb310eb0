use Rattle.std.proofs.Common.{◌+◌, ◌*◌, refl, ◌∙◌, arith}
use Rattle.aig_parts.specs.declared.ternary.Tern.TheVariants.{X}
use Rattle.aig_values.specs.Cells.{literal_value}
use Rattle.aig_values.specs.state.Words.{spelled}
use Rattle.aig_values.proofs.LiteralLemmas.{all_codes, word_literal}
use Rattle.aig_values.proofs.WordText.{piece_next}
use Rattle.aig_values.proofs.row.literal_codes.unpack.Goals as goal

pub loop-place-preserved : goal.loop-place-preserved
loop-place-preserved c =
    let words = c.args.words.now in
    let i = c.loop-place.place in
    piece_next X (literal_value (spelled words)) c.loop-place.codes c.unpack_word.new.codes (64 * i) 64 (64 * (i + 1))
    (omega arith) c.loop-place.invariant
    (λ k lt. c.unpack_word.ensures.there k lt
    ∙ word_literal words i c.bits_from.result k (64 * i + k) c.loop-place-test.true lt refl c.bits_from.ensures.one
    c.bits_from.ensures.zero)
    c.unpack_word.ensures.before

pub returns : goal.returns
returns c =
    let words = c.args.words.now in
    all_codes words c.loop-place.codes (omega (arith, c.loop-place.auto.codes, c.requires))
    (λ l lt. c.loop-place.invariant l (omega (arith, c.loop-place-test.false)))
