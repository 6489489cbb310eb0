-- A confirmed witness reaches its bad state, whatever its x turn out to be.
use Rattle.std.proofs.Common.{◌≡◌, ◌≢◌, ◌⊎◌, inl, inr, ℕ, zero, suc, ◌-◌, ◌<◌, List, [], ◌∷◌, length, Some, slice_get}
use Rattle.std.proofs.Common.{get_or, refl, sym, ap, ◌∙◌, subst, arith}
use Rattle.std.specs.List.{AllZip}
use Rattle.std.proofs.lemmas.Option.{slice_get-get_or, slice_get_within}
use Rattle.std.proofs.lemmas.Slice.Zip.{AllZip-long}
use Rattle.std.proofs.lemmas.List.{nil_from_length}
use Rattle.aig_parts.specs.declared.ternary.Tern.{Tern}
use Rattle.aig_parts.specs.declared.ternary.Tern.TheVariants.{Zero, One, X}
use Rattle.aig_parts.specs.declared.raw.Raw.{Raw}
use Rattle.aig_base.specs.Circuit.{IsCircuit}
use Rattle.aig_base.specs.Completion.{Completes, IsCompletion}
use Rattle.aig_parts.specs.Literal.{variable}
use Rattle.aig_base.specs.Sections.{IsDefined}
use Rattle.aig_base.specs.Runs.{IsAllowed}
use Rattle.aig_base.specs.Value.{Value}
use Rattle.aig_base.proofs.lists.Positions.{position_of}
use Rattle.aig_base.proofs.values.AllowedStarts.{allowed_or_not, allowed_still}
use Rattle.aig_base.proofs.values.OneValue.{have_one_value}
use Rattle.aig_base.proofs.values.Refined.{AllZip-slice_get, kept}
use Rattle.aig_sim.specs.declared.witness.verdict.Verdict.TheVariants as verdict
use Rattle.aig_values.specs.InputRows.{HaveWidth}
use Rattle.aig_sim.specs.Verdict.{StartsWrong, IsNotOne, IsVerdict, IsConfirmed}
use Rattle.aig_sim.specs.WitnessText.{Witness}
use Rattle.aig_values.proofs.PropertyLines.{bad_defined, constraint_defined}

-- rows are as wide as those that they complete
widths_kept : (width : ℕ) (rows rows' : List (List Tern)) → AllZip (AllZip Completes) rows rows' → HaveWidth width rows
    → HaveWidth width rows'
widths_kept width [] [] all h k d lt = absurd (omega (arith, lt))
widths_kept width [] (r' ∷ rows') all h k d lt = absurd all
widths_kept width (r ∷ rows) [] all h k d lt = absurd all
widths_kept width (r ∷ rows) (r' ∷ rows') all h zero d lt = AllZip-long Completes r r' all.0 ∙ h 0 d (omega arith)
widths_kept width (r ∷ rows) (r' ∷ rows') all h (suc k) d lt =
    widths_kept width rows rows' all.1 (λ j e below. h (suc j) e (omega (arith, below))) k d (omega (arith, lt))

one_or_not : (v : Tern) → (v ≡ One) ⊎ (v ≢ One)
one_or_not Zero = inr (λ e. let n : ⊥ = cc in n)
one_or_not One = inl refl
one_or_not X = inr (λ e. let n : ⊥ = cc in n)

module _ (raw : Raw) (circuit : IsCircuit raw) (w : Witness) (latches : length w.start ≡ length raw.latches)
    (widths : HaveWidth (length raw.inputs) w.rows) where
  -- a literal that is not other than 1 is 1
  is_one : (t p : ℕ) (literals : List ℕ) (l : ℕ) → t < length w.rows → slice_get literals p ≡ Some l
      → IsDefined raw (variable l) → (IsNotOne raw w t literals p → ⊥) → Value raw w.start w.rows t l One
  is_one t p literals l lt at defined not_other =
      let (v, value, only) = have_one_value raw w.start w.rows circuit.sound circuit.acyclic
      (record { latches = latches; inputs = widths }) t l lt defined in
      elim (one_or_not v) [
        | inl e ↦ subst (λ (u : Tern). Value raw w.start w.rows t l u) e value
        | inr ne ↦ absurd (not_other (record { literal = l; value = v; literal_is = at; value_is = value; not_one = ne }))
      ]

  module _ (start : List Tern) (rows : List (List Tern)) (completion : IsCompletion w.start w.rows start rows) where
    one_stays : (t l : ℕ) → Value raw w.start w.rows t l One → Value raw start rows t l One
    one_stays t l v = kept raw w.start start w.rows rows completion (λ e. let n : ⊥ = cc in n) v

    starts_allowed : ((p : ℕ) → StartsWrong raw w.start p → ⊥) → IsAllowed raw start
    starts_allowed right p x b at is =
        let lt = slice_get_within raw.latches p x at in
        let a = get_or w.start p X in
        let here : slice_get w.start p ≡ Some a = slice_get-get_or w.start p X (omega (arith, lt, latches)) in
        let (b', is', by) = AllZip-slice_get Completes w.start start p a completion.0 here in
        let same : b' ≡ b = (let q : Some b' ≡ Some b = sym is' ∙ is in cc) in
        elim (allowed_or_not x a) [
          | inl ok ↦ allowed_still raw circuit.sound p x at a b (subst (Completes a) same by).1 ok
          | inr wrong' ↦ absurd (right p (record { latch = x; value = a; latch_is = at; value_is = here; wrong = wrong' }))
        ]

  pub confirmed : w.rows ≢ [] → w.property < length raw.bad → IsVerdict raw w verdict.Confirmed → IsConfirmed raw w
  confirmed some there h start rows completion =
      let frames : length rows ≡ length w.rows = AllZip-long (AllZip Completes) w.rows rows completion.1 in
      let last : length w.rows - 1 < length w.rows = (elim (length_cases (length w.rows)) [
        | inl e ↦ absurd (some (nil_from_length w.rows e))
        | inr lt ↦ lt
      ]) in
      let b = get_or raw.bad w.property 0 in
      let at : slice_get raw.bad w.property ≡ Some b = slice_get-get_or raw.bad w.property 0 there in
      let end : length rows - 1 ≡ length w.rows - 1 = ap (λ (n : ℕ). n - 1) frames in (
        record {
          latches = AllZip-long Completes w.start start completion.0 ∙ latches;
          inputs = widths_kept (length raw.inputs) w.rows rows completion.1 widths;
        },
        starts_allowed start rows completion (λ p k. h.first (verdict.Initial p) (omega arith) k),
        omega (arith, frames, last),
        (
          b,
          at,
          (
            subst (λ (n : ℕ). Value raw start rows n b One) (sym end)
                (one_stays start rows completion (length w.rows - 1) b
                (is_one (length w.rows - 1) w.property raw.bad b last at
                (bad_defined raw circuit.sound w.property b at) (λ k. h.first verdict.NotBad (omega arith) k))),
            λ s c le has.
                let (p, stands) = position_of raw.constraints c has in
                let lt : s < length w.rows = omega (arith, le, end, last) in
                one_stays start rows completion s c
                (is_one s p raw.constraints c lt stands (constraint_defined raw circuit.sound p c stands)
                (λ k. h.first (verdict.Constraint s p) (omega arith) (lt, k))),
          ),
        ),
      )
    where
      length_cases : (n : ℕ) → (n ≡ 0) ⊎ (n - 1 < n)
      length_cases zero = inl refl
      length_cases (suc n) = inr (omega arith)
