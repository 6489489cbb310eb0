-- Each witness that is admitted shows a verdict.
use Rattle.std.proofs.Common.{◌≡◌, ◌≢◌, ◌⊎◌, inl, inr, ℕ, zero, suc, ◌-◌, ◌<◌, List, [], ◌∷◌, length, Some, get_or, slice_get}
use Rattle.std.proofs.Common.{refl, sym, ◌∙◌, subst, arith}
use Rattle.std.proofs.lemmas.Bool.{cases_eq}
use Rattle.std.proofs.lemmas.List.{nil_from_length}
use Rattle.std.proofs.lemmas.Option.{slice_get-get_or, slice_get_within}
use Rattle.aig_parts.specs.declared.latch.Latch.{Latch}
use Rattle.aig_parts.specs.declared.ternary.Tern.{Tern}
use Rattle.aig_parts.specs.declared.raw.Raw.{Raw}
use Rattle.aig_parts.specs.Literal.{variable}
use Rattle.aig_base.specs.Circuit.{IsCircuit}
use Rattle.aig_base.specs.Runs.{Allows}
use Rattle.aig_base.specs.Sections.{IsDefined}
use Rattle.aig_base.specs.Value.{Value}
use Rattle.aig_base.proofs.values.AllowedStarts.{allowed_or_not}
use Rattle.aig_base.proofs.values.OneValue.{have_one_value}
use Rattle.aig_base.proofs.values.UniqueValue.{unique}
use Rattle.aig_values.specs.InputRows.{HaveWidth}
use Rattle.aig_values.proofs.PropertyLines.{bad_defined, constraint_defined}
use Rattle.aig_sim.specs.declared.witness.verdict.Verdict.{Verdict}
use Rattle.aig_sim.specs.declared.witness.verdict.Verdict.TheVariants as verdict
use Rattle.aig_sim.specs.Verdict.{IsNotOne, IsVerdict, ShowsVerdict, StartsWrong}
use Rattle.aig_sim.specs.WitnessText.{IsAdmitted, SpellsWitness, Witness}
use Rattle.aig_sim.specs.state.Checking.{HoldConstraints}
use Rattle.aig_sim.proofs.Completions.{confirmed}
use Rattle.aig_sim.proofs.ReachedLemmas.{one_or_not}
use Rattle.aig_sim.proofs.VerdictLemmas.{not_held, not_reached, other_start, reached, right_more, starts_right}

-- what a witness that is admitted shows, as a record
pub shows_so : (raw : Raw) → IsCircuit raw → (text : List ℕ) (w : Witness) → SpellsWitness raw text w → IsAdmitted raw w
    → (v : Verdict) → IsVerdict raw w v → ShowsVerdict raw text v
shows_so raw circuit text w spells admitted v is = record {
  witness = w;
  text_is = spells;
  admitted = admitted;
  verdict_is = is;
  confirmed = λ e. confirmed raw circuit w spells.start_is spells.widths spells.some admitted.0 (subst (IsVerdict raw w) e is);
}

-- the least place before n at which it holds, or none
least_or_none : (P : ℕ → Type 0) (n : ℕ) → ((i : ℕ) → i < n → P i ⊎ (P i → ⊥))
    → ((p : ℕ) × (p < n) × P p × ((q : ℕ) → q < p → P q → ⊥)) ⊎ ((q : ℕ) → q < n → P q → ⊥)
least_or_none P zero known = inr (λ q lt. absurd (omega (arith, lt)))
least_or_none P (suc n) known = elim (least_or_none P n (λ i lt. known i (omega (arith, lt)))) [
  | inl found ↦ inl (found.0, (let lt = found.1 in omega (arith, lt)), found.2, found.3)
  | inr none ↦ elim (known n (omega arith)) [
    | inl is ↦ inl (n, omega arith, is, none)
    | inr isnt ↦ inr (λ q lt. right_more P n none isnt q (omega (arith, lt)))
  ]
]

item_there : {A : Type 0} → (xs : List A) (i : ℕ) → i < length xs → (x : A) × (slice_get xs i ≡ Some x)
item_there [] i lt = absurd (omega (arith, lt))
item_there (x ∷ xs) i lt = (get_or (x ∷ xs) i x, slice_get-get_or (x ∷ xs) i x lt)

module _ (raw : Raw) (circuit : IsCircuit raw) (w : Witness) (latches : length w.start ≡ length raw.latches)
    (widths : HaveWidth (length raw.inputs) w.rows) where
  start_known : (p : ℕ) → p < length raw.latches → StartsWrong raw w.start p ⊎ (StartsWrong raw w.start p → ⊥)
  start_known p lt =
      let (x, at) = item_there raw.latches p lt in
      let (v, is) = item_there w.start p (omega (arith, lt, latches)) in
      elim (allowed_or_not x v) [
        | inl allowed ↦ inr (starts_right raw w.start p x v at is allowed)
        | inr wrong ↦ inl (record { latch = x; value = v; latch_is = at; value_is = is; wrong = wrong })
      ]

  one_known : (t : ℕ) (literals : List ℕ) → t < length w.rows
      → ((i l : ℕ) → slice_get literals i ≡ Some l → IsDefined raw (variable l)) → (p : ℕ) → p < length literals
      → IsNotOne raw w t literals p ⊎ (IsNotOne raw w t literals p → ⊥)
  one_known t literals frame defined p lt =
      let (l, at) = item_there literals p lt in
      let (v, value, only) = have_one_value raw w.start w.rows circuit.sound circuit.acyclic
      (record { latches = latches; inputs = widths }) t l frame (defined p l at) in
      elim (one_or_not v) [
        | inl e ↦ inr (λ h.
            let same : h.literal ≡ l = (let q : Some h.literal ≡ Some l = sym h.literal_is ∙ at in cc) in
            h.not_one (unique raw w.start w.rows circuit.sound h.value_is
            (subst (λ (k : ℕ). Value raw w.start w.rows t k v) (sym same) value) ∙ e))
        | inr ne ↦ inl (record { literal = l; value = v; literal_is = at; value_is = value; not_one = ne })
      ]

  -- the first constraint that is not 1 at this frame
  abbrev Fails : ℕ → Type 0
  Fails t = (p : ℕ) × IsNotOne raw w t raw.constraints p × ((q : ℕ) → q < p → IsNotOne raw w t raw.constraints q → ⊥)

  fails_or_holds : (t : ℕ) → t < length w.rows → Fails t ⊎ ((q : ℕ) → IsNotOne raw w t raw.constraints q → ⊥)
  fails_or_holds t frame = elim (least_or_none (IsNotOne raw w t raw.constraints) (length raw.constraints)
      (one_known t raw.constraints frame (constraint_defined raw circuit.sound))) [
        | inl found ↦ inl (found.0, found.2, found.3)
        | inr none ↦ inr (λ q h. none q (slice_get_within raw.constraints q h.literal h.literal_is) h)
      ]

  fails_known : (t : ℕ) → t < length w.rows → Fails t ⊎ (Fails t → ⊥)
  fails_known t frame = elim (fails_or_holds t frame) [ inl found ↦ inl found | inr none ↦ inr (λ h. none h.0 h.1) ]

  held_before : (t : ℕ) → ((u : ℕ) → u < t → u < length w.rows) → ((u : ℕ) → u < t → Fails u → ⊥) → HoldConstraints raw w t
  held_before t within none u q lt h = elim (fails_or_holds u (within u lt)) [
    | inl found ↦ none u lt found
    | inr holds ↦ holds q h
  ]

  last_there : w.rows ≢ [] → length w.rows - 1 < length w.rows
  last_there some = elim (cases_eq (length w.rows) 0) [
    | inl e ↦ absurd (some (nil_from_length w.rows e))
    | inr ne ↦ omega (arith, ne)
  ]

  verdict_there : w.rows ≢ [] → w.property < length raw.bad → (v : Verdict) × IsVerdict raw w v
  verdict_there some there = elim (least_or_none (StartsWrong raw w.start) (length raw.latches) start_known) [
    | inl found ↦ (verdict.Initial found.0, other_start raw w found.0 found.2 found.3)
    | inr right ↦
        let starts = λ (q : ℕ) (h : StartsWrong raw w.start q).
        right q (slice_get_within raw.latches q h.latch h.latch_is) h in
        elim (least_or_none Fails (length w.rows) fails_known) [
          | inl found ↦
              let (t, frame, (p, fails, least), before) = found in (
                verdict.Constraint t p,
                not_held raw w t p starts (record {
                  frame = frame;
                  fails = fails;
                  frames_before = held_before t (λ u lt. omega (arith, lt, frame)) before;
                  before = least;
                }),
              )
          | inr none ↦
              let held = held_before (length w.rows) (λ u lt. lt) none in
              elim (one_known (length w.rows - 1) raw.bad (last_there some) (bad_defined raw circuit.sound) w.property there) [
                | inl is ↦ (verdict.NotBad, not_reached raw w starts held is)
                | inr isnt ↦ (verdict.Confirmed, reached raw w starts held isnt)
              ]
        ]
  ]

pub shows_some : (raw : Raw) → IsCircuit raw → (text : List ℕ) (w : Witness) → SpellsWitness raw text w → IsAdmitted raw w
    → (v : Verdict) × ShowsVerdict raw text v
shows_some raw circuit text w spells admitted =
    let (v, is) = verdict_there raw circuit w spells.start_is spells.widths spells.some admitted.0 in
    (v, shows_so raw circuit text w spells admitted v is)
