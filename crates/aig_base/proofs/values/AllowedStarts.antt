-- Which values a latch may start at.
use Rattle.std.proofs.Common.{◌≡◌, ◌≢◌, ◌⊎◌, inl, inr, ℕ, zero, suc, ◌<◌, ◌≤◌, Some, slice_get, refl, sym, ◌∙◌, arith}
use Rattle.std.proofs.lemmas.Bool.{cases_eq}
use Rattle.aig_parts.specs.declared.latch.Latch.{Latch}
use Rattle.aig_parts.specs.declared.raw.Raw.{Raw}
use Rattle.aig_parts.specs.declared.ternary.Tern.{Tern}
use Rattle.aig_parts.specs.declared.ternary.Tern.TheVariants.{Zero, One, X}
use Rattle.aig_base.specs.Runs.{Allows}
use Rattle.aig_base.specs.Sound.{IsSound, IsReset}
use Rattle.aig_base.specs.Value.{reset_value}
use Rattle.aig_base.proofs.circuits.Places.{latch, IsDefinition-of_place}
use Rattle.aig_base.proofs.lists.Gets.{All-at}

same_or_not : (w v : Tern) → (w ≡ v) ⊎ (w ≢ v)
same_or_not Zero Zero = inl refl
same_or_not Zero One = inr (λ e. let no : ⊥ = cc in no)
same_or_not Zero X = inr (λ e. let no : ⊥ = cc in no)
same_or_not One Zero = inr (λ e. let no : ⊥ = cc in no)
same_or_not One One = inl refl
same_or_not One X = inr (λ e. let no : ⊥ = cc in no)
same_or_not X Zero = inr (λ e. let no : ⊥ = cc in no)
same_or_not X One = inr (λ e. let no : ⊥ = cc in no)
same_or_not X X = inl refl

pub allowed_or_not : (x : Latch) (w : Tern) → Allows x w ⊎ (Allows x w → ⊥)
allowed_or_not x w = elim (cases_eq x.reset x.lit) [
  | inl own ↦ inl (inl own)
  | inr other ↦ elim (same_or_not w (reset_value x.reset)) [
    | inl same ↦ inl (inr same)
    | inr differs ↦ inr (λ allowed. elim allowed [ inl own ↦ other own | inr same ↦ differs same ])
  ]
]

known : (n : ℕ) → n ≤ 1 → reset_value n ≢ X
known zero le e = let no : ⊥ = cc in no
known (suc zero) le e = let no : ⊥ = cc in no
known (suc (suc n)) le e = omega (arith, le)

module _ (raw : Raw) (sound : IsSound raw) (p : ℕ) (x : Latch) (at : slice_get raw.latches p ≡ Some x) where
  pub over_one : 1 < x.lit
  over_one = let d = IsDefinition-of_place raw sound (latch p) x.lit tt (x, at, refl) in omega (arith, d.0, d.1)

  pub own_or_constant : (x.reset ≡ x.lit) ⊎ (x.reset ≤ 1)
  own_or_constant = elim (All-at IsReset raw.latches p x sound.resets at) [
    | inl e ↦ inr (omega (arith, e))
    | inr o ↦ elim o [ inl e ↦ inr (omega (arith, e)) | inr own ↦ inl own ]
  ]

  -- a reset other than 0 and 1 allows any value
  pub allows_any : (w : Tern) → 1 < x.reset → Allows x w
  allows_any w over = elim own_or_constant [ inl own ↦ inl own | inr le ↦ absurd (omega (arith, over, le)) ]

  -- and 0 and 1 do not allow x
  pub forbids_x : (1 < x.reset → ⊥) → Allows x X → ⊥
  forbids_x constant (inl own) = constant (omega (arith, own, over_one))
  forbids_x constant (inr same) = elim own_or_constant [
    | inl own ↦ constant (omega (arith, own, over_one))
    | inr le ↦ known x.reset le (sym same)
  ]

  -- what an allowed value is but for x is allowed
  pub allowed_still : (a b : Tern) → (a ≢ X → b ≡ a) → Allows x a → Allows x b
  allowed_still a b kept (inl own) = inl own
  allowed_still a b kept (inr same) = elim own_or_constant [
    | inl own ↦ inl own
    | inr le ↦ inr (kept (λ e. known x.reset le (sym same ∙ e)) ∙ same)
  ]
