use Rattle.std.proofs.Common.{◌≡◌, ◌+◌, ◌*◌, ◌<◌, ◌-◌, ℕ, length, get_or, ap, ◌∙◌, arith}
use Rattle.aig_parts.specs.declared.ternary.Tern.TheVariants.{X}
use Rattle.aig_values.specs.Characters.{character}
use Rattle.aig_values.specs.state.Words.{spelled}
use Rattle.aig_values.proofs.WordLemmas.{cell_from}
use Rattle.aig_values.proofs.WordText.{piece_next}
use Rattle.aig_values.proofs.row.plane_row.spell_cells.Goals as goal

pub word_bits-requires-clause-index : goal.word_bits-requires-clause-index
word_bits-requires-clause-index c =
    let is = c.loop-at.invariant.is c.loop-at-test.true in
    omega (arith, is, c.requires, c.loop-at.auto.text, c.loop-at-test.true)

pub loop-at-preserved : goal.loop-at-preserved
loop-at-preserved c =
    let words = c.args.words.now in
    let first = c.args.first in
    let at = c.loop-at.at in
    let text = c.loop-at.text in
    let end = c.min-end.result in
    let i = c.loop-at.invariant in
    let v : ℕ = 32 * c.loop-at.index + c.loop-at.place in
    let is : v ≡ first + at = i.is c.loop-at-test.true in
    let last = c.min-end.ensures in
    let size = c.spell_word.auto.text in
    let test = c.loop-at-test.true in
    let small = i.place in
    record {
      place = omega arith;
      is = λ lt. omega arith;
      inside = omega arith;
      text = piece_next 0 (λ k. character (get_or (spelled words) (first + k) X)) text c.spell_word.new.text at (end - at) end
          (omega arith) i.text
          (λ k lt.
          let near : c.loop-at.place + k < 32 = omega arith in
          let next : v + k ≡ first + (at + k) = omega arith in
          let below : v + k < 32 * length words = omega (arith, c.requires, c.loop-at.auto.text) in
          c.spell_word.ensures.there k (omega arith)
          ∙ ap character (cell_from words v c.word_bits.result k below (c.word_bits.ensures.one k near) (c.word_bits.ensures.zero k near)
          ∙ ap (λ u. get_or (spelled words) u X) next))
          c.spell_word.ensures.before;
    }
