-- What the literals of a clause leave.
use Rattle.std.proofs.Common.{◌≡◌, ◌⊎◌, inl, inr, ℕ, ◌+◌, ◌<◌, Bool, false, List, length, get_or, refl, sym, ap, subst}
use Rattle.std.proofs.Common.{◌∙◌, arith}
use Rattle.std.proofs.lemmas.Bool.{cases_eq, false≢true}
use Rattle.aig_parts.specs.Literal.{negation}
use Rattle.aig_sat.specs.declared.checker.known.Left.{Left}
use Rattle.aig_sat.specs.declared.checker.known.Left.TheVariants.{Nothing, One, More}
use Rattle.aig_sat.specs.checker.Knowledge.{AreFalseBut, IsKnown}

-- what the first n literals leave
abbrev pub Leaves : List Bool → List ℕ → ℕ → Left → Type 0
Leaves truths literals n Nothing = (k : ℕ) → k < n → IsKnown truths (negation (get_or literals k 0))
Leaves truths literals n (One l) =
    (k : ℕ) → k < n → (get_or literals k 0 ≡ l) ⊎ IsKnown truths (negation (get_or literals k 0))
Leaves truths literals n More = ⊥

-- one more literal, which is known to be false
pub leaves_false : (truths : List Bool) (literals : List ℕ) (n : ℕ) (left : Left) → Leaves truths literals n left
    → IsKnown truths (negation (get_or literals n 0)) → Leaves truths literals (n + 1) left
leaves_false truths literals n Nothing before untrue = λ k below. elim (cases_eq k n) [
  | inl e ↦ subst (λ (x : ℕ). IsKnown truths (negation (get_or literals x 0))) (sym e) untrue
  | inr ne ↦ before k (omega (arith, ne, below))
]
leaves_false truths literals n (One l) before untrue = λ k below. elim (cases_eq k n) [
  | inl e ↦ inr (subst (λ (x : ℕ). IsKnown truths (negation (get_or literals x 0))) (sym e) untrue)
  | inr ne ↦ before k (omega (arith, ne, below))
]
leaves_false truths literals n More before untrue = before

-- the first one that is not
pub leaves_one : (truths : List Bool) (literals : List ℕ) (n l : ℕ) → Leaves truths literals n Nothing
    → get_or literals n 0 ≡ l → Leaves truths literals (n + 1) (One l)
leaves_one truths literals n l before is k below = elim (cases_eq k n) [
  | inl e ↦ inl (ap (λ i. get_or literals i 0) e ∙ is)
  | inr ne ↦ inr (before k (omega (arith, ne, below)))
]

-- the one that is left is one of the first n, and not known to be false
abbrev pub IsLeft : List Bool → List ℕ → ℕ → Left → Type 0
IsLeft truths literals n (One l) =
    (k : ℕ) × (k < n) × (get_or literals k 0 ≡ l) × (IsKnown truths (negation (get_or literals k 0)) → ⊥)
IsLeft truths literals n _ = Unit {0}

pub left_later : (truths : List Bool) (literals : List ℕ) (n : ℕ) (left : Left) → IsLeft truths literals n left
    → IsLeft truths literals (n + 1) left
left_later truths literals n (One l) (k, below, is, free) = (k, omega (arith, below), is, free)
left_later truths literals n Nothing h = tt
left_later truths literals n More h = tt
