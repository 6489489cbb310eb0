use Rattle.std.proofs.Common.{◌≡◌, sym, ap, ap₂, ◌∙◌, subst, arith}
use Rattle.std.proofs.lemmas.List.{with_items_is}
use Rattle.std.specs.Int.{bit_at}
use Rattle.aig_values.specs.state.Words.{ones, zeros, bit_in, spelled, one_of, zero_of, value_of, AreWhole}
use Rattle.aig_values.proofs.PlaneGates.{changed_row, changed_whole}
use Rattle.aig_values.proofs.WordBits.{bits_apart, one_small, pair_one, pair_zero, value_back, zero_small}
use Rattle.aig_values.proofs.WordLemmas.{cell_within, first_one, first_zero}
use Rattle.aig_values.proofs.row.plane_row.PlaneRowCellRow.set.Goals as goal

pub bits_from-requires : goal.bits_from-requires
bits_from-requires c =
    cell_within c.deref.result.now c.args.self.now (ap spelled c.deref.ensures.value ∙ c.self.view_is) c.args.variable c.requires

pub flip-requires-clause-within : goal.flip-requires-clause-within
flip-requires-clause-within c =
    cell_within c.deref_mut.result.now c.args.self.now (ap spelled c.deref_mut.ensures.value ∙ c.self.view_is) c.args.variable
    c.requires

pub invariant_of-self : goal.invariant_of-self
invariant_of-self c =
    let words = c.deref_mut.result.now in
    let new = c.flip.new.words in
    let read = c.deref.result.now in
    let v = c.args.variable in
    let code = c.args.code in
    let before = c.bits_from.result in
    let bits = c.spread-bits.result in
    let same : read ≡ words = c.deref.ensures.value ∙ sym c.deref_mut.ensures.value in
    let whole : AreWhole words = subst AreWhole (sym c.deref_mut.ensures.value) c.self.invariant in
    let one : bit_at bits 0 ≡ one_of code =
    ap (λ n. bit_at n 0) c.spread-bits.ensures ∙ pair_one (one_of code) (zero_of code) (one_small code) (zero_small code) in
    let nought : bit_at bits 32 ≡ zero_of code =
    ap (λ n. bit_at n 32) c.spread-bits.ensures ∙ pair_zero (one_of code) (zero_of code) (one_small code) (zero_small code) in
    subst AreWhole
    (sym (with_items_is c.self.inside.words new (omega (arith, c.flip.auto.words, c.deref_mut.ensures.len))))
    (changed_whole words new c.args.self.now v before bits bits c.change-changed.result
    (ap spelled c.deref_mut.ensures.value ∙ c.self.view_is) c.requires c.flip.auto.words
    (first_one read v before c.bits_from.ensures.one c.bits_from.ensures.zero ∙ ap (λ ws. bit_in (ones ws) v) same)
    (first_zero read v before c.bits_from.ensures.one c.bits_from.ensures.zero ∙ ap (λ ws. bit_in (zeros ws) v) same)
    c.change-changed.ensures.one c.change-changed.ensures.zero c.flip.ensures.one c.flip.ensures.zero c.flip.ensures.other_ones
    c.flip.ensures.other_zeros whole (omega (arith, one, nought, bits_apart code)))

pub returns : goal.returns
returns c =
    let words = c.deref_mut.result.now in
    let new = c.flip.new.words in
    let read = c.deref.result.now in
    let v = c.args.variable in
    let code = c.args.code in
    let before = c.bits_from.result in
    let bits = c.spread-bits.result in
    let same : read ≡ words = c.deref.ensures.value ∙ sym c.deref_mut.ensures.value in
    let one : bit_at bits 0 ≡ one_of code =
    ap (λ n. bit_at n 0) c.spread-bits.ensures ∙ pair_one (one_of code) (zero_of code) (one_small code) (zero_small code) in
    let nought : bit_at bits 32 ≡ zero_of code =
    ap (λ n. bit_at n 32) c.spread-bits.ensures ∙ pair_zero (one_of code) (zero_of code) (one_small code) (zero_small code) in
    ap spelled (with_items_is c.self.inside.words new (omega (arith, c.flip.auto.words, c.deref_mut.ensures.len)))
    ∙ changed_row words new c.args.self.now v before bits bits c.change-changed.result
    (ap spelled c.deref_mut.ensures.value ∙ c.self.view_is) c.requires c.flip.auto.words
    (first_one read v before c.bits_from.ensures.one c.bits_from.ensures.zero ∙ ap (λ ws. bit_in (ones ws) v) same)
    (first_zero read v before c.bits_from.ensures.one c.bits_from.ensures.zero ∙ ap (λ ws. bit_in (zeros ws) v) same)
    c.change-changed.ensures.one c.change-changed.ensures.zero c.flip.ensures.one c.flip.ensures.zero c.flip.ensures.other_ones
    c.flip.ensures.other_zeros code (ap₂ value_of one nought ∙ value_back code)
