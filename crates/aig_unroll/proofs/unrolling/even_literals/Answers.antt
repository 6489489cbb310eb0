use Rattle.std.proofs.Common.{◌≡◌, ◌+◌, ◌*◌, ◌∷◌, ◌++◌, [], ◌∙◌, List, ℕ, sym, ap₂, arith}
use Rattle.std.proofs.lemmas.List.FromFn.{map-range_with_len_more}
use Rattle.aig_unroll.proofs.unrolling.even_literals.Goals as goal

pub loop-variable-preserved : goal.loop-variable-preserved
loop-variable-preserved c =
    let e : 1 + c.loop-variable.variable ≡ c.loop-variable.variable + 1 = omega arith in
    c.in_ok-push.ensures.ok
    ∙ ap₂ (λ (xs : List ℕ) (x : ℕ). xs ++ x ∷ []) c.loop-variable.invariant c.new.ensures
    ∙ sym (map-range_with_len_more (λ u. 2 * u) 1 c.loop-variable.variable (c.loop-variable.variable + 1) e)
