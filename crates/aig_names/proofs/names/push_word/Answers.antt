use Rattle.std.proofs.Common.{◌+◌, ◌++◌, ◌∷◌, [], ℕ, List, get_or, drop, sym, ap, ◌∙◌}
use Rattle.aig_names.specs.Names.{as_name_after}
use Rattle.aig_names.proofs.Words.{shown_more, shown_all}
use Rattle.aig_names.proofs.names.push_word.Goals as goal

pub loop-byte-preserved : goal.loop-byte-preserved
loop-byte-preserved c =
    let b : ℕ = get_or c.args.word.now c.loop-byte.byte-index 0 in
    let more = shown_more c.loop-byte.text.items c.args.word.now c.loop-byte.before c.loop-byte.byte-index c.loop-byte-test.true in
    ap (λ (xs : List ℕ). xs ++ as_name_after b (drop (c.loop-byte.byte-index + 1) c.args.word.now))
    (c.in_ok-push.ensures.items ∙ ap (λ (x : ℕ). c.loop-byte.text.items ++ x ∷ []) c.shown_as.ensures) ∙ more ∙ c.loop-byte.invariant

pub returns : goal.returns
returns c =
    sym (shown_all c.loop-byte.text.items c.args.word.now c.loop-byte.before c.loop-byte.byte-index c.loop-byte-test.false)
    ∙ c.loop-byte.invariant
