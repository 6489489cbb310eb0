-- The minus before a negated literal.
use Rattle.std.proofs.Common.{◌≡◌, ◌⊎◌, inl, inr, ℕ, ◌%◌, [], ◌∷◌, refl, arith}
use Rattle.aig_parts.specs.Literal.{IsNegated}
use Rattle.aig_cnf.specs.Dimacs.{sign_text}

pub signs : (l : ℕ) → (l % 2 ≡ 0) ⊎ (l % 2 ≡ 1)
signs l = grind arith

pub sign_odd : (l : ℕ) → IsNegated l → sign_text l ≡ 45 ∷ []
sign_odd l e = rw e refl

pub sign_even : (l : ℕ) → (IsNegated l → ⊥) → sign_text l ≡ []
sign_even l none = elim (signs l) [
  | inl even ↦ rw even refl
  | inr odd ↦ absurd (none odd)
]
