-- A search for a literal that is not known to be false, in two parts of a clause.
use Rattle.std.proofs.Common.{◌≡◌, ℕ, ◌+◌, ◌-◌, ◌<◌, ◌≤◌, ◌∙◌, Bool, List, length, take, drop, get_or, inl, inr, ap}
use Rattle.std.proofs.Common.{subst, sym, arith}
use Rattle.std.specs.Prelude.{Option, None, Some, IfNone}
use Rattle.std.proofs.lemmas.List.{get_or-take, get_or-drop, length-take-le, length-drop}
use Rattle.std.proofs.lemmas.Bool.{cases_eq, cases_lt}
use Rattle.aig_parts.specs.Literal.{negation}
use Rattle.aig_sat.specs.checker.Knowledge.{AreFalse, AreFalseBeside, IsKnown}

-- a literal of the second part
false_after : (truths : List Bool) (literals : List ℕ) (n : ℕ) → AreFalse truths (drop n literals) → (k : ℕ) → n ≤ k
    → k < length literals → IsKnown truths (negation (get_or literals k 0))
false_after truths literals n after k ge inside =
    let at : n + (k - n) ≡ k = omega (arith, ge) in
    let same : get_or (drop n literals) (k - n) 0 ≡ get_or literals k 0 =
    get_or-drop n literals (k - n) 0 ∙ ap (λ i. get_or literals i 0) at in
    let len : length (drop n literals) ≡ length literals - n = length-drop n literals in
    subst (λ (x : ℕ). IsKnown truths (negation x)) same (after (k - n) (omega (arith, len, ge, inside)))

false_in_both : (truths : List Bool) (literals : List ℕ) (n : ℕ) → n ≤ length literals → AreFalse truths (take n literals)
    → AreFalse truths (drop n literals) → AreFalse truths literals
false_in_both truths literals n within before after k inside = elim (cases_lt k n) [
  | inl lt ↦
      let same : get_or (take n literals) k 0 ≡ get_or literals k 0 = get_or-take n literals k 0 lt in
      let len : length (take n literals) ≡ n = length-take-le n literals within in
      subst (λ (x : ℕ). IsKnown truths (negation x)) same (before k (omega (arith, len, lt)))
  | inr ge ↦ false_after truths literals n after k ge inside
]

-- a second search, in the first part
pub none_in_both : {X : Type 0} (r : Option X) (truths : List Bool) (literals front back : List ℕ) (n : ℕ)
    → n ≤ length literals → front ≡ take n literals → back ≡ drop n literals → AreFalse truths back
    → IfNone r (AreFalse truths front) → IfNone r (AreFalse truths literals)
none_in_both (Some x) truths literals front back n within is_front is_back after before = tt
none_in_both None truths literals front back n within is_front is_back after before =
    false_in_both truths literals n within (subst (AreFalse truths) is_front before) (subst (AreFalse truths) is_back after)

-- all but one of the first two literals are false
pub false_beside : (truths : List Bool) (literals rest : List ℕ) (lost : ℕ) → lost < 2
    → IsKnown truths (negation (get_or literals lost 0)) → rest ≡ drop 2 literals → AreFalse truths rest
    → AreFalseBeside truths literals (get_or literals (1 - lost) 0)
false_beside truths literals rest lost small untrue is_rest after k inside = elim (cases_lt k 2) [
  | inr ge ↦ inr (false_after truths literals 2 (subst (AreFalse truths) is_rest after) k ge inside)
  | inl lt ↦ elim (cases_eq k lost) [
    | inl e ↦ inr (subst (λ (x : ℕ). IsKnown truths (negation (get_or literals x 0))) (sym e) untrue)
    | inr ne ↦
        let at : k ≡ 1 - lost = omega (arith, lt, ne, small) in
        inl (ap (λ i. get_or literals i 0) at)
  ]
]
