-- A value that is not x stays where x become values.
use Rattle.std.proofs.Common.{◌≡◌, inl, inr, ℕ, List, refl, ap, subst}
use Rattle.std.specs.List.{AllZip}
use Rattle.aig_parts.specs.declared.ternary.Tern.{Tern}
use Rattle.aig_parts.specs.declared.ternary.Tern.TheVariants.{Zero, One, X}
use Rattle.aig_parts.specs.Ternary.{kleene_and, kleene_not}
use Rattle.aig_parts.specs.declared.raw.Raw.{Raw}
use Rattle.aig_base.specs.Value as value
use Rattle.aig_base.specs.Value.{Value}
use Rattle.aig_base.proofs.values.Refined.{AllZip-slice_get, and-zero}
use Rattle.aig_reduce.specs.Irreducible.{IsSameOrX}

and_covers : (a b a' b' : Tern) → IsSameOrX a a' → IsSameOrX b b' → IsSameOrX (kleene_and a b) (kleene_and a' b')
and_covers Zero b a' b' (inl e) q = let no : ⊥ = cc in absurd no
and_covers Zero b a' b' (inr e) q = inr (ap (λ (x : Tern). kleene_and x b') e)
and_covers One b a' b' (inl e) q = let no : ⊥ = cc in absurd no
and_covers One b a' b' (inr e) q = subst (λ (x : Tern). IsSameOrX b (kleene_and x b')) e q
and_covers X Zero a' b' p (inl e) = let no : ⊥ = cc in absurd no
and_covers X Zero a' b' p (inr e) = inr (subst (λ (x : Tern). Zero ≡ kleene_and a' x) e (let z = and-zero a' in cc))
and_covers X One a' b' p q = inl refl
and_covers X X a' b' p q = inl refl

not_covers : (a a' : Tern) → IsSameOrX a a' → IsSameOrX (kleene_not a) (kleene_not a')
not_covers Zero a' (inl e) = let no : ⊥ = cc in absurd no
not_covers Zero a' (inr e) = inr (ap kleene_not e)
not_covers One a' (inl e) = let no : ⊥ = cc in absurd no
not_covers One a' (inr e) = inr (ap kleene_not e)
not_covers X a' p = inl refl

module _ (raw : Raw) (start start' : List Tern) (rows rows' : List (List Tern))
    (starts : AllZip IsSameOrX start start') (inputs : AllZip (AllZip IsSameOrX) rows rows') where
  -- the value in the other run
  pub covered : {t l : ℕ} {w : Tern} → Value raw start rows t l w → (w' : Tern) × Value raw start' rows' t l w' × IsSameOrX w w'
  covered (value.constant_false t) = (Zero, value.constant_false t, inr refl)
  covered (value.constant_true t) = (One, value.constant_true t, inr refl)
  covered (value.input t p l w row at is cell) =
      let (row', is', all) = AllZip-slice_get (AllZip IsSameOrX) rows rows' t row inputs is in
      let (w', cell', by) = AllZip-slice_get IsSameOrX row row' p w all cell in
      (w', value.input t p l w' row' at is' cell', by)
  covered (value.latch_first p x w at is) =
      let (w', is', by) = AllZip-slice_get IsSameOrX start start' p w starts is in
      (w', value.latch_first p x w' at is', by)
  covered (value.latch_next t p x w at v) =
      let (w', v', by) = covered v in (w', value.latch_next t p x w' at v', by)
  covered (value.gate t q g a b at va vb) =
      let (a', va', by_a) = covered va in
      let (b', vb', by_b) = covered vb in
      (kleene_and a' b', value.gate t q g a' b' at va' vb', and_covers a b a' b' by_a by_b)
  covered (value.negated t l w over neg v) =
      let (w', v', by) = covered v in (kleene_not w', value.negated t l w' over neg v', not_covers w w' by)

  -- a value of 1 is one after it too
  pub one_stays : {t l : ℕ} → Value raw start rows t l One → Value raw start' rows' t l One
  one_stays {t} {l} v =
      let (w', v', by) = covered v in elim by [
        | inl e ↦ let no : ⊥ = cc in absurd no
        | inr e ↦ subst (Value raw start' rows' t l) (let f : w' ≡ One = cc in f) v'
      ]
