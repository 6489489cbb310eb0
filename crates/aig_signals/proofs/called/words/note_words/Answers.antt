use Rattle.std.proofs.Common.{◌≡◌, ◌∙◌, ◌++◌, ℕ, List, [], ◌∷◌, map, ap}
use Rattle.std.specs.Prelude.{filter_map}
use Rattle.std.specs.Str.{bytes_eq}
use Rattle.indexmap.specs.IndexMap.{get_by}
use Rattle.aig_names.specs.Names.{words}
use Rattle.aig_signals.specs.Bits.{word_bit}
use Rattle.aig_signals.specs.Names.{readable}
use Rattle.aig_signals.specs.state.Called.{with_words}
use Rattle.aig_signals.proofs.CalledWords.{with_end, with_step, words_apart}
use Rattle.aig_signals.proofs.called.words.note_words.Goals as goal

pub loop-first-smaller : goal.loop-first-smaller
loop-first-smaller c = c.in-Some.ensures.1

pub loop-first-preserved : goal.loop-first-preserved
loop-first-preserved c x =
    let word = c.in-Some.first.word.now in
    let h = word_bit x c.args.literal in
    let shown : c.as_slice.result.now ≡ readable word =
    c.as_slice.ensures.value ∙ c.in_ok-push_readable.ensures ∙ ap (λ (xs : List ℕ). xs ++ readable word) c.clear.ensures.items in
    with_step (filter_map h (readable word ∷ [])) _ _ _ _ _ _
    (words_apart h (map readable (words c.loop-first.rest.now)) (map readable (words c.in-Some.first.rest.now)) (readable word)
    (ap (λ ws. map readable ws) c.in-Some.ensures.0))
    (c.in_ok-note_word.ensures x
    ∙ ap (λ (xs : List ℕ). with_words (filter_map h (xs ∷ [])) (get_by (λ key. bytes_eq x key.items) c.loop-first.table)) shown)
    (c.loop-first.invariant x)

pub returns : goal.returns
returns c x =
    with_end _ _ _ _ (ap (λ ws. filter_map (word_bit x c.args.literal) (map readable ws)) c.in_default.ensures) (c.loop-first.invariant x)
