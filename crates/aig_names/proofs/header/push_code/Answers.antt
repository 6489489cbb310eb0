use Rattle.std.proofs.Common.{◌+◌, ◌/◌, ◌%◌, ◌++◌, ◌∷◌, [], ℕ, List, sym, ap, ◌∙◌, append_assoc}
use Rattle.aig_names.specs.Names.{identifier_code}
use Rattle.aig_names.proofs.Codes.{code_last, code_more}
use Rattle.aig_names.proofs.header.push_code.Goals as goal

pub loop-rest-preserved : goal.loop-rest-preserved
loop-rest-preserved c =
    let n = c.loop-rest.rest in
    let old = c.loop-rest.text.items in
    ap (λ (xs : List ℕ). xs ++ identifier_code (n / 94)) c.in_ok-push.ensures.items
    ∙ append_assoc old ((33 + n % 94) ∷ []) (identifier_code (n / 94))
    ∙ ap (λ (xs : List ℕ). old ++ xs) (sym (code_more n c.loop-rest-test.true)) ∙ c.loop-rest.invariant

pub returns : goal.returns
returns c =
    let n = c.loop-rest.rest in
    c.in_ok-push-2.ensures.items ∙ ap (λ (xs : List ℕ). c.loop-rest.text.items ++ xs) (sym (code_last n c.loop-rest-test.false)) ∙ c.loop-rest.invariant
