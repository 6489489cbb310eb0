use Rattle.std.proofs.Common.{◌≡◌, ◌∙◌, ◌++◌, ℕ, List, ap}
use Rattle.aig_names.specs.Names.{words}
use Rattle.aig_signals.specs.Names.{readable}
use Rattle.aig_signals.specs.state.Called.{if_named}
use Rattle.aig_signals.proofs.CalledLemmas.{found_end, found_step, words_end, words_split}
use Rattle.aig_signals.proofs.NameLemmas.{any_is}
use Rattle.aig_signals.proofs.called.table.note_words.Goals as goal

pub loop-first-smaller : goal.loop-first-smaller
loop-first-smaller c = c.in-Some.ensures.1

pub loop-first-preserved : goal.loop-first-preserved
loop-first-preserved c x =
    let word = c.in-Some.first.word.now in
    let shown : c.as_slice.result.now ≡ readable word =
    c.as_slice.ensures.value ∙ c.in_ok-push_readable.ensures ∙ ap (λ (xs : List ℕ). xs ++ readable word) c.clear.ensures.items in
    found_step _ _ (if_named (any_is x (words c.in-Some.first.rest.now)) c.args.literal) _ _ _ _
    (words_split x c.args.literal _ word c.in-Some.first.rest.now c.as_slice.result.now c.in-Some.ensures.0 shown)
    (c.in_ok-note.ensures x) (c.loop-first.invariant x)

pub returns : goal.returns
returns c x = found_end _ _ _ _ (words_end x c.args.literal _ c.in_default.ensures) (c.loop-first.invariant x)
