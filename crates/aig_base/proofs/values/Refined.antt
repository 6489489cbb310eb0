-- A value that is not x stands under every completion.
use Rattle.std.proofs.Common.{◌≡◌, ◌≢◌, ℕ, zero, suc, List, [], ◌∷◌, Some, slice_get, refl, ap, subst}
use Rattle.std.specs.List.{AllZip}
use Rattle.aig_parts.specs.declared.ternary.Tern.{Tern}
use Rattle.aig_parts.specs.declared.ternary.Tern.TheVariants.{Zero, One, X}
use Rattle.aig_parts.specs.Ternary.{kleene_and, kleene_not}
use Rattle.aig_parts.specs.declared.raw.Raw.{Raw}
use Rattle.aig_base.specs.Value as value
use Rattle.aig_base.specs.Value.{Value}
use Rattle.aig_base.specs.Completion.{Completes, IsCompletion}

-- the elements at one place
pub AllZip-slice_get : {A B : Type 0} → (R : A → B → Type 0) (xs : List A) (ys : List B) (i : ℕ) (x : A)
    → AllZip R xs ys
    → slice_get xs i ≡ Some x → (y : B) × (slice_get ys i ≡ Some y) × R x y
AllZip-slice_get R [] [] i x all at = cc
AllZip-slice_get R [] (y ∷ ys) i x all at = absurd all
AllZip-slice_get R (a ∷ xs) [] i x all at = absurd all
AllZip-slice_get R (a ∷ xs) (b ∷ ys) zero x all at = let e : a ≡ x = cc in (b, refl, subst (λ z. R z b) e all.0)
AllZip-slice_get R (a ∷ xs) (b ∷ ys) (suc i) x all at = AllZip-slice_get R xs ys i x all.1 at

-- b is a where a is known
Refines : Tern → Tern → Type 0
Refines a b = a ≢ X → b ≡ a

pub and-zero : (a : Tern) → kleene_and a Zero ≡ Zero
and-zero Zero = refl
and-zero One = refl
and-zero X = refl

and_refines : (a b a' b' : Tern) → Refines a a' → Refines b b' → Refines (kleene_and a b) (kleene_and a' b')
unfolding Refines
and_refines Zero b a' b' p q known = let e : a' ≡ Zero = p (λ h. cc) in rw e refl
and_refines One b a' b' p q known = let e : a' ≡ One = p (λ h. cc) in rw e (q known)
and_refines X Zero a' b' p q known = let e : b' ≡ Zero = q (λ h. cc) in rw e (and-zero a')
and_refines X One a' b' p q known = absurd (known refl)
and_refines X X a' b' p q known = absurd (known refl)

not_refines : (a a' : Tern) → Refines a a' → Refines (kleene_not a) (kleene_not a')
unfolding Refines
not_refines Zero a' p known = ap kleene_not (p (λ h. cc))
not_refines One a' p known = ap kleene_not (p (λ h. cc))
not_refines X a' p known = absurd (known refl)

module _ (raw : Raw) (start start' : List Tern) (rows rows' : List (List Tern))
    (completes : IsCompletion start rows start' rows') where
  refined : {t l : ℕ} {w : Tern} → Value raw start rows t l w
      → (w' : Tern) × Value raw start' rows' t l w' × Refines w w'
  unfolding Refines
  refined (value.constant_false t) = (Zero, value.constant_false t, λ _. refl)
  refined (value.constant_true t) = (One, value.constant_true t, λ _. refl)
  refined (value.input t p l w row at is cell) =
      let (row', is', all) = AllZip-slice_get (AllZip Completes) rows rows' t row completes.1 is in
      let (w', cell', by) = AllZip-slice_get Completes row row' p w all cell in
      (w', value.input t p l w' row' at is' cell', by.1)
  refined (value.latch_first p x w at is) =
      let (w', is', by) = AllZip-slice_get Completes start start' p w completes.0 is in
      (w', value.latch_first p x w' at is', by.1)
  refined (value.latch_next t p x w at v) =
      let (w', v', by) = refined v in (w', value.latch_next t p x w' at v', by)
  refined (value.gate t q g a b at va vb) =
      let (a', va', by_a) = refined va in
      let (b', vb', by_b) = refined vb in
      (kleene_and a' b', value.gate t q g a' b' at va' vb', and_refines a b a' b' by_a by_b)
  refined (value.negated t l w over neg v) =
      let (w', v', by) = refined v in (kleene_not w', value.negated t l w' over neg v', not_refines w w' by)

  -- a value that is not x is the value under the completion
  pub kept : {t l : ℕ} {w : Tern} → w ≢ X → Value raw start rows t l w → Value raw start' rows' t l w
  unfolding Refines
  kept {t} {l} {w} known v =
      let (w', v', by) = refined v in subst (λ u. Value raw start' rows' t l u) (by known) v'
