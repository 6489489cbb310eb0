-- When the run of a witness is confirmed, by its values.
use Rattle.std.proofs.Common.{◌≡◌, ◌≢◌, ◌⊎◌, inl, inr, ℕ, zero, suc, ◌-◌, ◌<◌, List, [], ◌∷◌, length, Some, slice_get}
use Rattle.std.proofs.Common.{refl, sym, ap, ◌∙◌, subst, arith}
use Rattle.std.specs.List.{AllZip}
use Rattle.std.proofs.lemmas.Slice.Zip.{AllZip-long}
use Rattle.aig_parts.specs.declared.ternary.Tern.{Tern}
use Rattle.aig_parts.specs.declared.ternary.Tern.TheVariants.{Zero, One, X}
use Rattle.aig_parts.specs.declared.raw.Raw.{Raw}
use Rattle.aig_parts.specs.Literal.{variable}
use Rattle.aig_base.specs.Circuit.{IsCircuit}
use Rattle.aig_base.specs.Sections.{IsDefined}
use Rattle.aig_base.specs.Sound.{IsSound}
use Rattle.aig_base.specs.Value.{Value}
use Rattle.aig_base.proofs.values.AllowedStarts.{allowed_still}
use Rattle.aig_base.proofs.values.OneValue.{have_one_value}
use Rattle.aig_base.proofs.values.UniqueValue.{unique}
use Rattle.aig_sim.specs.declared.witness.verdict.Verdict.TheVariants as verdict
use Rattle.aig_sim.specs.Verdict.{StartsWrong, IsNotOne, IsVerdict}
use Rattle.aig_sim.specs.WitnessText.{Witness}
use Rattle.aig_sim.proofs.VerdictLemmas.{reached}
use Rattle.aig_values.proofs.PropertyLines.{bad_defined, constraint_defined}
use Rattle.aig_reduce.specs.Irreducible.{IsSameOrX}
use Rattle.aig_reduce.specs.state.Reducing.{IsRunOf}
use Rattle.aig_reduce.proofs.CoveredValues.{one_stays}

-- a run from an allowed start under which all constraints are 1, and at the last frame the property
pub record Reaches (raw : Raw) (w : Witness) : Type 0 where
  pub starts : (p : ℕ) → StartsWrong raw w.start p → ⊥
  pub constrained : (t p l : ℕ) → t < length w.rows → slice_get raw.constraints p ≡ Some l
      → Value raw w.start w.rows t l One
  pub bad : (l : ℕ) → slice_get raw.bad w.property ≡ Some l → Value raw w.start w.rows (length w.rows - 1) l One

one_or_not : (v : Tern) → (v ≡ One) ⊎ (v ≢ One)
one_or_not Zero = inr (λ e. let no : ⊥ = cc in no)
one_or_not One = inl refl
one_or_not X = inr (λ e. let no : ⊥ = cc in no)

pub last_within : {A : Type 0} (rows : List A) → rows ≢ [] → length rows - 1 < length rows
last_within [] some = absurd (some refl)
last_within (row ∷ rows) some = omega arith

module _ (raw : Raw) (circuit : IsCircuit raw) (w : Witness) (run : IsRunOf raw w) where
  -- a literal that is not other than 1 is 1
  is_one : (t p : ℕ) (literals : List ℕ) (l : ℕ) → t < length w.rows → slice_get literals p ≡ Some l
      → IsDefined raw (variable l) → (IsNotOne raw w t literals p → ⊥) → Value raw w.start w.rows t l One
  is_one t p literals l lt at defined not_other =
      let (v, value, only) = have_one_value raw w.start w.rows circuit.sound circuit.acyclic
      (record { latches = run.latches; inputs = run.widths }) t l lt defined in
      elim (one_or_not v) [
        | inl e ↦ subst (λ (u : Tern). Value raw w.start w.rows t l u) e value
        | inr ne ↦ absurd (not_other (record { literal = l; value = v; literal_is = at; value_is = value; not_one = ne }))
      ]

  pub confirmed_reaches : IsVerdict raw w verdict.Confirmed → Reaches raw w
  confirmed_reaches h = record {
    starts = λ p k. h.first (verdict.Initial p) (omega arith) k;
    constrained = λ t p l lt at.
        is_one t p raw.constraints l lt at (constraint_defined raw circuit.sound p l at)
        (λ k. h.first (verdict.Constraint t p) (omega arith) (lt, k));
    bad = λ l at.
        is_one (length w.rows - 1) w.property raw.bad l (last_within w.rows run.some) at
        (bad_defined raw circuit.sound w.property l at) (λ k. h.first verdict.NotBad (omega arith) k);
  }

  pub reaches_confirmed : Reaches raw w → IsVerdict raw w verdict.Confirmed
  reaches_confirmed h =
      reached raw w h.starts
      (λ u q lt k. k.not_one (unique raw w.start w.rows circuit.sound k.value_is (h.constrained u q k.literal lt k.literal_is)))
      (λ k. k.not_one (unique raw w.start w.rows circuit.sound k.value_is (h.bad k.literal k.literal_is)))

-- ---- what has fewer x is confirmed too

-- the elements at one place, from the second list on
pub zip_back : {A B : Type 0} (R : A → B → Type 0) (xs : List A) (ys : List B) (i : ℕ) (y : B) → AllZip R xs ys
    → slice_get ys i ≡ Some y → (x : A) × (slice_get xs i ≡ Some x) × R x y
zip_back R [] [] i y all at = cc
zip_back R [] (z ∷ ys) i y all at = absurd all
zip_back R (x ∷ xs) [] i y all at = absurd all
zip_back R (x ∷ xs) (z ∷ ys) zero y all at = let e : z ≡ y = cc in (x, refl, subst (R x) e all.0)
zip_back R (x ∷ xs) (z ∷ ys) (suc i) y all at = zip_back R xs ys i y all.1 at

kept_if_known : (a b : Tern) → IsSameOrX a b → a ≢ X → b ≡ a
kept_if_known a b (inl x) differs = absurd (differs x)
kept_if_known a b (inr same) differs = sym same

module _ (raw : Raw) (sound : IsSound raw) (v w : Witness) (property : v.property ≡ w.property) (starts : AllZip IsSameOrX v.start w.start)
    (rows : AllZip (AllZip IsSameOrX) v.rows w.rows) where
  frames : length w.rows ≡ length v.rows
  frames = AllZip-long (AllZip IsSameOrX) v.rows w.rows rows

  one_still : (t l : ℕ) → Value raw v.start v.rows t l One → Value raw w.start w.rows t l One
  one_still t l k = one_stays raw v.start w.start v.rows w.rows starts rows k

  pub reaches_still : Reaches raw v → Reaches raw w
  reaches_still h = record {
    starts = λ p k.
        let (a, at, by) = zip_back IsSameOrX v.start w.start p k.value starts k.value_is in
        h.starts p (record {
          latch = k.latch;
          value = a;
          latch_is = k.latch_is;
          value_is = at;
          wrong = λ allowed. k.wrong (allowed_still raw sound p k.latch k.latch_is a k.value (kept_if_known a k.value by) allowed);
        });
    constrained = λ t p l lt at. one_still t l (h.constrained t p l (omega (arith, lt, frames)) at);
    bad = λ l at.
        subst (λ (n : ℕ). Value raw w.start w.rows n l One) (ap (λ (n : ℕ). n - 1) (sym frames))
        (one_still (length v.rows - 1) l
        (h.bad l (ap (slice_get raw.bad) property ∙ at)));
  }
