use Rattle.std.proofs.Common.{ℕ, List, [], ◌∷◌, ◌++◌, map, sym, ap, ◌∙◌, append-nil}
use Rattle.std.specs.Prelude.{filter_map}
use Rattle.aig_signals.specs.Bits.{word_bit}
use Rattle.aig_signals.specs.Names.{readable}
use Rattle.aig_signals.proofs.BitLemmas.{words_more}
use Rattle.aig_signals.proofs.bits.push_words.Goals as goal

pub loop-first-smaller : goal.loop-first-smaller
loop-first-smaller c = c.in-Some.ensures.1

pub loop-first-preserved : goal.loop-first-preserved
loop-first-preserved c =
    let word = c.in-Some.first.word.now in
    let h = word_bit c.args.name.now c.args.literal in
    let text = c.as_slice.ensures.value ∙ c.in_ok-push_readable.ensures ∙ ap (λ (xs : List ℕ). xs ++ readable word) c.clear.ensures.items in
    words_more h c.loop-first.bits.items _ _ _ _ (readable word) (ap (λ ws. map readable ws) c.in-Some.ensures.0)
    (c.in_ok-push_word.ensures ∙ ap (λ (xs : List ℕ). c.loop-first.bits.items ++ filter_map h (xs ∷ [])) text)
    c.loop-first.invariant

pub returns : goal.returns
returns c =
    sym (append-nil _) ∙ ap (λ ws. c.loop-first.bits.items ++ filter_map (word_bit c.args.name.now c.args.literal) (map readable ws)) (sym c.in_default.ensures)
    ∙ c.loop-first.invariant
