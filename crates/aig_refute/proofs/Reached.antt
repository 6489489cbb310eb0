-- A run reaches a property exactly where its frames so far are a confirmed witness.
use Rattle.std.proofs.Common.{◌≡◌, ◌≢◌, ◌⊎◌, inl, inr, ℕ, ◌+◌, ◌-◌, ◌<◌, List, length, take, drop, Some}
use Rattle.std.proofs.Common.{slice_get, refl, sym, ◌∙◌, ap, subst, arith}
use Rattle.std.proofs.lemmas.List.{length-take-le, take-append-drop, get_or-take}
use Rattle.aig_parts.specs.declared.raw.Raw.{Raw}
use Rattle.aig_parts.specs.declared.ternary.Tern.{Tern}
use Rattle.aig_parts.specs.declared.ternary.Tern.TheVariants.{Zero, One, X}
use Rattle.aig_parts.specs.Literal.{variable}
use Rattle.aig_base.specs.Circuit.{IsCircuit}
use Rattle.aig_base.specs.Runs.{IsAllowed, ReachesBad}
use Rattle.aig_base.specs.Sections.{IsDefined}
use Rattle.aig_base.specs.Value.{Value, Fits}
use Rattle.aig_base.proofs.lists.Positions.{Contains-from_slice_get, position_of}
use Rattle.aig_base.proofs.values.AllowedStarts.{allowed_or_not}
use Rattle.aig_base.proofs.values.OneValue.{exists_value}
use Rattle.aig_base.proofs.values.UniqueValue.{unique}
use Rattle.aig_sim.specs.declared.witness.verdict.Verdict.TheVariants as verdict
use Rattle.aig_sim.specs.Verdict.{StartsWrong, IsNotOne, IsVerdict}
use Rattle.aig_sim.specs.WitnessText.{Witness}
use Rattle.aig_sim.proofs.VerdictLemmas.{reached}
use Rattle.aig_values.proofs.PropertyLines.{bad_defined, constraint_defined}
use Rattle.aig_values.proofs.TraceLemmas.{value_stays}
use Rattle.aig_sim.specs.Reached.{witness_at}
use Rattle.aig_refute.specs.UnrolledWitness.{ConfirmsReached}

one_or_not : (w : Tern) → (w ≡ One) ⊎ (w ≢ One)
one_or_not Zero = inr (λ e. let no : ⊥ = cc in no)
one_or_not One = inl refl
one_or_not X = inr (λ e. let no : ⊥ = cc in no)

module _ (raw : Raw) (start : List Tern) where
  -- a start that the resets allow starts no latch wrong
  pub none_wrong : IsAllowed raw start → (p : ℕ) → StartsWrong raw start p → ⊥
  none_wrong allowed p h = h.wrong (allowed p h.latch h.value h.latch_is h.value_is)

  -- a start that starts no latch wrong is allowed
  pub allowed_where_none : ((p : ℕ) → StartsWrong raw start p → ⊥) → IsAllowed raw start
  allowed_where_none right p x w at here = elim (allowed_or_not x w) [
    | inl allows ↦ allows
    | inr wrong' ↦
        absurd (right p (record { latch = x; value = w; latch_is = at; value_is = here; wrong = wrong' }))
  ]

module _ (raw : Raw) (circuit : IsCircuit raw) where
  -- ---- literals that are 1

  module _ (w : Witness) (fits : Fits raw w.start w.rows) where
    -- a literal that is nothing but 1 is 1
    is_one : (t p : ℕ) (literals : List ℕ) (l : ℕ) → t < length w.rows → slice_get literals p ≡ Some l
        → IsDefined raw (variable l) → (IsNotOne raw w t literals p → ⊥) → Value raw w.start w.rows t l One
    is_one t p literals l lt at defined not_other =
        let (v, value) = exists_value raw w.start w.rows circuit.sound circuit.acyclic fits t lt l defined in
        elim (one_or_not v) [
          | inl e ↦ subst (λ (u : Tern). Value raw w.start w.rows t l u) e value
          | inr ne ↦
              absurd (not_other (record { literal = l; value = v; literal_is = at; value_is = value; not_one = ne }))
        ]

  -- ---- the frames of a run up to t

  module _ (start : List Tern) (rows : List (List Tern)) (fits : Fits raw start rows) (allowed : IsAllowed raw start)
      (t : ℕ) (lt : t < length rows) where
    short : length (take (t + 1) rows) ≡ t + 1
    short = length-take-le (t + 1) rows (omega arith)

    fits_short : Fits raw start (take (t + 1) rows)
    fits_short = record {
      latches = fits.latches;
      inputs = λ n d below.
          let e = get_or-take (t + 1) rows n d (omega (arith, short, below)) in
          ap length e ∙ fits.inputs n d (omega (arith, short, below));
    }

    -- a value of the frames up to t is one of the run
    lengthened : {s l : ℕ} {w : Tern} → Value raw start (take (t + 1) rows) s l w → Value raw start rows s l w
    lengthened {s} {l} {w} v =
        subst (λ (r : List (List Tern)). Value raw start r s l w) (take-append-drop (t + 1) rows)
        (value_stays (drop (t + 1) rows) v)

    -- what is 1 in the run is not other than 1 in the witness
    not_other : (p s q : ℕ) (literals : List ℕ)
        → ((l : ℕ) → slice_get literals q ≡ Some l → Value raw start rows s l One)
        → IsNotOne raw (witness_at start rows t p) s literals q → ⊥
    not_other p s q literals one h =
        h.not_one (unique raw start rows circuit.sound (lengthened h.value_is) (one h.literal h.literal_is))

    pub confirms : (p b : ℕ) → slice_get raw.bad p ≡ Some b → ReachesBad raw start rows t b
        → IsVerdict raw (witness_at start rows t p) verdict.Confirmed
    confirms p b at (bad, constraints) =
        reached raw (witness_at start rows t p) (none_wrong raw start allowed)
        (λ s q below k. not_other p s q raw.constraints
        (λ l here. constraints s l (omega (arith, short, below)) (Contains-from_slice_get raw.constraints q l here)) k)
        (λ k. not_other p (length (take (t + 1) rows) - 1) p raw.bad
        (λ l here.
        let same : b ≡ l = (let e : Some b ≡ Some l = sym at ∙ here in cc) in
        let last : t ≡ length (take (t + 1) rows) - 1 = omega (arith, short) in
        subst (λ (n : ℕ). Value raw start rows n l One) last (subst (λ (n : ℕ). Value raw start rows t n One) same bad))
        k)

    pub reaches : (p b : ℕ) → slice_get raw.bad p ≡ Some b
        → IsVerdict raw (witness_at start rows t p) verdict.Confirmed → ReachesBad raw start rows t b
    reaches p b at h =
        let w = witness_at start rows t p in
        let last : length (take (t + 1) rows) - 1 ≡ t = omega (arith, short) in (
          subst (λ (n : ℕ). Value raw start rows n b One) last
              (lengthened (is_one w fits_short (length (take (t + 1) rows) - 1) p raw.bad b (omega (arith, short)) at
              (bad_defined raw circuit.sound p b at) (λ k. h.first verdict.NotBad (omega arith) k))),
          λ s c le has.
              let (q, here) = position_of raw.constraints c has in
              let below : s < length (take (t + 1) rows) = omega (arith, short, le) in
              lengthened (is_one w fits_short s q raw.constraints c below here
              (constraint_defined raw circuit.sound q c here)
              (λ k. h.first (verdict.Constraint s q) (omega arith) (below, k))),
        )

-- the run reaches a property exactly where the witness of it is confirmed
pub confirms_reached : (raw : Raw) → IsCircuit raw → (start : List Tern) (rows : List (List Tern))
    → Fits raw start rows → IsAllowed raw start → ConfirmsReached raw start rows
confirms_reached raw circuit start rows fits allowed t p b lt at =
    (confirms raw circuit start rows fits allowed t lt p b at, reaches raw circuit start rows fits allowed t lt p b at)
