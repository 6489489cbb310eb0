use Rattle.std.proofs.Common.{◌≡◌, ◌++◌, List, ℕ, true, false, sym, ap, ◌∙◌}
use Rattle.std.specs.Str.{bytes_eq}
use Rattle.aig_signals.specs.Names.{readable}
use Rattle.aig_signals.proofs.NameLemmas.{any_here, any_later, any_none}
use Rattle.aig_signals.proofs.names.has_word.Goals as goal

pub returns-then-eq : goal.returns-then-eq
returns-then-eq c =
    let word = c.in-Some.first.word.now in
    let same : c.as_slice.result.now ≡ readable word =
    c.as_slice.ensures.value ∙ c.in_ok-push_readable.ensures ∙ ap (λ (xs : List ℕ). xs ++ readable word) c.clear.ensures.items in
    let holds : bytes_eq (readable word) c.args.name.now ≡ true =
    ap (λ (xs : List ℕ). bytes_eq xs c.args.name.now) (sym same) ∙ sym c.eq.ensures ∙ c.if-eq.true in
    sym (any_here c.args.name.now _ word c.in-Some.first.rest.now c.in-Some.ensures.0 holds) ∙ c.loop-first.invariant

pub loop-first-smaller : goal.loop-first-smaller
loop-first-smaller c = c.in-Some.ensures.1

pub loop-first-preserved : goal.loop-first-preserved
loop-first-preserved c =
    let word = c.in-Some.first.word.now in
    let same : c.as_slice.result.now ≡ readable word =
    c.as_slice.ensures.value ∙ c.in_ok-push_readable.ensures ∙ ap (λ (xs : List ℕ). xs ++ readable word) c.clear.ensures.items in
    let fails : bytes_eq (readable word) c.args.name.now ≡ false =
    ap (λ (xs : List ℕ). bytes_eq xs c.args.name.now) (sym same) ∙ sym c.eq.ensures ∙ c.if-eq.false in
    sym (any_later c.args.name.now _ word c.in-Some.first.rest.now c.in-Some.ensures.0 fails) ∙ c.loop-first.invariant

pub returns : goal.returns
returns c = sym (any_none c.args.name.now _ c.in_default.ensures) ∙ c.loop-first.invariant
