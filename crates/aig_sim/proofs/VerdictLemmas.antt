-- What a run shows of a witness.
use Rattle.std.proofs.Common.{◌≡◌, ◌≢◌, inl, inr, ℕ, ◌+◌, ◌-◌, ◌<◌, ◌≤◌, List, [], ◌∷◌, ◌++◌, length, map, flat_map}
use Rattle.std.proofs.Common.{take, drop, get_or, Some, slice_get, sym, ap, ◌∙◌, subst, arith, append_assoc}
use Rattle.std.proofs.lemmas.Bool.{cases_eq}
use Rattle.std.proofs.lemmas.Option.{slice_get_within}
use Rattle.aig_parts.specs.declared.ternary.Tern.{Tern}
use Rattle.aig_parts.specs.declared.ternary.Tern.TheVariants.{One}
use Rattle.aig_parts.specs.declared.latch.Latch.{Latch}
use Rattle.aig_parts.specs.declared.raw.Raw.{Raw}
use Rattle.aig_base.specs.Circuit.{IsCircuit}
use Rattle.aig_parts.specs.Literal.{variable}
use Rattle.aig_base.specs.Runs.{Allows}
use Rattle.aig_base.specs.Sections.{IsDefined}
use Rattle.aig_base.specs.Sound.{IsSound}
use Rattle.aig_base.specs.Value.{Value}
use Rattle.aig_base.proofs.values.UniqueValue.{unique}
use Rattle.aig_values.specs.Cells.{literal_value}
use Rattle.aig_sim.specs.declared.witness.verdict.Verdict.{Verdict}
use Rattle.aig_sim.specs.declared.witness.verdict.Verdict.TheVariants as verdict
use Rattle.aig_sim.specs.declared.witness.text.WitnessParts.{WitnessParts}
use Rattle.aig_sim.specs.state.Checking.{ArePartsOf, BeginsWithRow, ReadsNotOne, HasRun, HoldConstraints}
use Rattle.aig_sim.specs.state.Checking.{IsFirstFailure}
use Rattle.aig_values.specs.state.Frame.{HoldsAll, AreStates}
use Rattle.aig_sim.specs.state.Machine.{Steps}
use Rattle.aig_values.specs.Characters.{character}
use Rattle.aig_values.specs.InputRows.{HaveWidth}
use Rattle.aig_sim.specs.StimulusText.{row_line}
use Rattle.aig_sim.specs.Verdict.{StartsWrong, IsNotOne, VerdictApplies, IsBefore, IsVerdict}
use Rattle.aig_sim.specs.WitnessText.{Witness, IsAdmitted, witness_rows_text}
use Rattle.aig_values.proofs.Evaluation.{literal_has_value}
use Rattle.aig_sim.proofs.OneText.{row_ends}
use Rattle.aig_values.proofs.PropertyLines.{constraint_defined}
use Rattle.aig_values.proofs.TraceLemmas.{holds_still, first_states}
use Rattle.aig_sim.proofs.WitnessLemmas.{same_line}
use Rattle.std.proofs.lemmas.List.{length-take-le, take-append-drop, take_more, drop_more, nil_from_length}

-- ---- literals that a witness asks for
module _ (raw : Raw) (sound : IsSound raw) where
  -- cells that are values show which literals are 1
  module _ (w : Witness) (t : ℕ) (cells : List Tern) (holds : HoldsAll raw w.start w.rows t cells) (literals : List ℕ)
      (defined : (i l : ℕ) → slice_get literals i ≡ Some l → IsDefined raw (variable l)) where
    value_of : (i l : ℕ) → slice_get literals i ≡ Some l → Value raw w.start w.rows t l (literal_value cells l)
    value_of i l at = literal_has_value raw w.start w.rows t cells l sound (holds (variable l) (defined i l at))

    pub shows_not_one : (p : ℕ) → ReadsNotOne cells literals p → IsNotOne raw w t literals p
    shows_not_one p h = record {
      literal = h.literal;
      value = literal_value cells h.literal;
      literal_is = h.literal_is;
      value_is = value_of p h.literal h.literal_is;
      not_one = h.not_one;
    }

    pub shown_not_one : (p : ℕ) → IsNotOne raw w t literals p → ReadsNotOne cells literals p
    shown_not_one p h = record {
      literal = h.literal;
      literal_is = h.literal_is;
      not_one = λ e. h.not_one
          (unique raw w.start w.rows sound h.value_is (value_of p h.literal h.literal_is) ∙ e);
    }

-- ---- places before which nothing is wrong

-- the next place is right too
pub right_more : (P : ℕ → Type 0) (i : ℕ) → ((q : ℕ) → q < i → P q → ⊥) → (P i → ⊥) → (q : ℕ) → q < i + 1 → P q → ⊥
right_more P i before here q lt h = elim (cases_eq q i) [
  | inl e ↦ here (subst P e h)
  | inr ne ↦ before q (omega arith) h
]

-- latch i starts as its reset allows
pub starts_right : (raw : Raw) (start : List Tern) (i : ℕ) (x : Latch) (w : Tern) → slice_get raw.latches i ≡ Some x
    → slice_get start i ≡ Some w → Allows x w → StartsWrong raw start i → ⊥
starts_right raw start i x w at is allowed h =
    let e : h.latch ≡ x = (let p : Some h.latch ≡ Some x = sym h.latch_is ∙ at in cc) in
    let f : h.value ≡ w = (let p : Some h.value ≡ Some w = sym h.value_is ∙ is in cc) in
    h.wrong (subst (λ (u : Tern). Allows h.latch u) (sym f)
    (subst (λ (y : Latch). Allows y w) (sym e) allowed))

-- the literal at place i is 1
pub reads_one : (cells : List Tern) (literals : List ℕ) (i l : ℕ) → slice_get literals i ≡ Some l
    → literal_value cells l ≡ One → ReadsNotOne cells literals i → ⊥
reads_one cells literals i l at is h =
    let e : h.literal ≡ l = (let p : Some h.literal ≡ Some l = sym h.literal_is ∙ at in cc) in
    h.not_one (ap (literal_value cells) e ∙ is)

-- there is nothing after the last place
pub no_latch_after : (raw : Raw) (start : List Tern) (i q : ℕ) → length raw.latches ≤ i
    → ((q : ℕ) → q < i → StartsWrong raw start q → ⊥) → StartsWrong raw start q → ⊥
no_latch_after raw start i q le before h =
    let lt = slice_get_within raw.latches q h.latch h.latch_is in before q (omega (arith, lt, le)) h

pub no_literal_after : (cells : List Tern) (literals : List ℕ) (i q : ℕ) → length literals ≤ i
    → ((q : ℕ) → q < i → ReadsNotOne cells literals q → ⊥) → ReadsNotOne cells literals q → ⊥
no_literal_after cells literals i q le before h =
    let lt = slice_get_within literals q h.literal h.literal_is in before q (omega (arith, lt, le)) h

-- ---- a run, frame by frame

rows_text_more : (row : List Tern) (rows : List (List Tern)) → witness_rows_text (row ∷ rows) ≡ row_line row ++ witness_rows_text rows
rows_text_more row rows = append_assoc (row_line row) (flat_map row_line rows) (46 ∷ (10 ∷ []))

pub next_row : (rows : List (List Tern)) (t : ℕ) → t < length rows
    → witness_rows_text (drop t rows) ≡ row_line (get_or rows t []) ++ witness_rows_text (drop (t + 1) rows)
next_row rows t lt =
    ap witness_rows_text (drop_more rows t [] lt) ∙ rows_text_more (get_or rows t []) (drop (t + 1) rows)

-- the text of frames begins with a row
pub begins_with_row : (width : ℕ) (rest : List ℕ) (rows : List (List Tern)) (t : ℕ) → HaveWidth width rows
    → rest ≡ witness_rows_text (drop t rows) → t < length rows → BeginsWithRow width rest
begins_with_row width rest rows t widths is lt = (
  get_or rows t [],
  witness_rows_text (drop (t + 1) rows),
  widths t [] lt,
  is ∙ next_row rows t lt ∙ row_ends (get_or rows t []) (witness_rows_text (drop (t + 1) rows)),
)

-- after a row that was read the others follow
pub row_was_read : (rest rest' : List ℕ) (rows : List (List Tern)) (t : ℕ) (row : List Tern)
    → rest ≡ witness_rows_text (drop t rows) → t < length rows → rest ≡ map character row ++ (10 ∷ rest')
    → (row ≡ get_or rows t []) × (rest' ≡ witness_rows_text (drop (t + 1) rows))
row_was_read rest rest' rows t row is lt read =
    same_line rest row (get_or rows t []) rest' (witness_rows_text (drop (t + 1) rows)) read (is ∙ next_row rows t lt)

module _ (raw : Raw) (sound : IsSound raw) (w : Witness) (t : ℕ) (rest rest' : List ℕ)
    (cells cells' states states' row : List Tern) (h : HasRun raw w t rest cells states) (lt : t < length w.rows)
    (read : rest ≡ map character row ++ (10 ∷ rest'))
    (step : (start : List Tern) (rows : List (List Tern)) → AreStates raw start rows (length rows) states
    → Steps raw start rows row cells' states') where
  len : length (take t w.rows) ≡ t
  len = length-take-le t w.rows (omega (arith, lt))

  is_row : row ≡ get_or w.rows t []
  is_row = (row_was_read rest rest' w.rows t row h.rest_is lt read).0

  rows_so_far : take t w.rows ++ row ∷ [] ≡ take (t + 1) w.rows
  rows_so_far = ap (λ (r : List Tern). take t w.rows ++ r ∷ []) is_row ∙ sym (take_more w.rows t [] lt)

  stepped : Steps raw w.start (take t w.rows) row cells' states'
  stepped = step w.start (take t w.rows)
      (subst (λ (n : ℕ). AreStates raw w.start (take t w.rows) n states) (sym len) h.states_are)

  pub cells_hold : HoldsAll raw w.start w.rows t cells'
  cells_hold =
      subst (λ (rows : List (List Tern)). HoldsAll raw w.start rows t cells') (take-append-drop (t + 1) w.rows)
      (holds_still (drop (t + 1) w.rows)
      (subst (λ (rows : List (List Tern)). HoldsAll raw w.start rows t cells') rows_so_far
      (subst (λ (n : ℕ). HoldsAll raw w.start (take t w.rows ++ row ∷ []) n cells') len stepped.cells_are)))

  states_follow : AreStates raw w.start (take (t + 1) w.rows) (t + 1) states'
  states_follow =
      subst (λ (rows : List (List Tern)). AreStates raw w.start rows (t + 1) states') rows_so_far
      (subst (λ (n : ℕ). AreStates raw w.start (take t w.rows ++ row ∷ []) (n + 1) states') len stepped.states_are)

  pub run_on : ((q : ℕ) → ReadsNotOne cells' raw.constraints q → ⊥) → HasRun raw w (t + 1) rest' cells' states'
  run_on none = record {
    rest_is = (row_was_read rest rest' w.rows t row h.rest_is lt read).1;
    states_are = states_follow;
    cells_are = λ u e.
        subst (λ (n : ℕ). HoldsAll raw w.start w.rows n cells') (omega (arith, e)) cells_hold;
    constrained = λ u q below fails. elim (cases_eq u t) [
      | inl e ↦ none q (shown_not_one raw sound w t cells' cells_hold raw.constraints (constraint_defined raw sound) q
          (subst (λ (n : ℕ). IsNotOne raw w n raw.constraints q) e fails))
      | inr ne ↦ h.constrained u q (omega (arith, below, ne)) fails
    ];
  }

  pub run_fails : (p : ℕ) → ReadsNotOne cells' raw.constraints p
      → ((q : ℕ) → q < p → ReadsNotOne cells' raw.constraints q → ⊥) → IsFirstFailure raw w t p
  run_fails p fails least = record {
    frame = lt;
    fails = shows_not_one raw sound w t cells' cells_hold raw.constraints (constraint_defined raw sound) p fails;
    frames_before = h.constrained;
    before = λ q below k. least q below
        (shown_not_one raw sound w t cells' cells_hold raw.constraints (constraint_defined raw sound) q k);
  }

-- ---- the first verdict that applies

-- the start that was read is the witness's
pub start_same : {raw : Raw} {parts : WitnessParts} {w : Witness} (start : List Tern) (rest : List ℕ) → ArePartsOf raw parts w
    → parts.start.now ≡ map character start ++ (10 ∷ rest) → start ≡ w.start
start_same {parts} {w} start rest h read =
    (same_line parts.start.now start w.start rest parts.rows.now read
    (h.start_is ∙ sym (row_ends w.start parts.rows.now))).0

-- before the first frame
pub run_begins : {raw : Raw} {parts : WitnessParts} {w : Witness} (cells states : List Tern) → ArePartsOf raw parts w → states ≡ w.start
    → HasRun raw w 0 parts.rows.now cells states
run_begins {raw} {w} cells states h e = record {
  rest_is = h.rows_are.text_is;
  states_are = subst (λ (s : List Tern). AreStates raw w.start [] 0 s) (sym e) (first_states raw w.start h.latches);
  cells_are = λ u k. absurd (omega (arith, k));
  constrained = λ u q lt. absurd (omega (arith, lt));
}

module _ (raw : Raw) (w : Witness) where
  pub other_start : (p : ℕ) → StartsWrong raw w.start p → ((q : ℕ) → q < p → StartsWrong raw w.start q → ⊥)
      → IsVerdict raw w (verdict.Initial p)
  other_start p h least = record { applies = h; first = before }
    where
      before : (u : Verdict) → IsBefore u (verdict.Initial p) → VerdictApplies raw w u → ⊥
      before (verdict.Initial q) lt k = least q lt k
      before (verdict.Constraint u q) no' k = absurd (omega (arith, no'))
      before verdict.NotBad no' k = absurd (omega (arith, no'))
      before verdict.Confirmed no' k = absurd (omega (arith, no'))

  pub not_held : (t p : ℕ) → ((q : ℕ) → StartsWrong raw w.start q → ⊥) → IsFirstFailure raw w t p
      → IsVerdict raw w (verdict.Constraint t p)
  not_held t p starts h = record { applies = (h.frame, h.fails); first = before }
    where
      before : (u : Verdict) → IsBefore u (verdict.Constraint t p) → VerdictApplies raw w u → ⊥
      before (verdict.Initial q) lt k = starts q k
      before (verdict.Constraint u q) lt k = elim lt [
        | inl below ↦ h.frames_before u q below k.1
        | inr same ↦ h.before q same.1 (subst (λ (n : ℕ). IsNotOne raw w n raw.constraints q) same.0 k.1)
      ]
      before verdict.NotBad no' k = absurd (omega (arith, no'))
      before verdict.Confirmed no' k = absurd (omega (arith, no'))

  pub not_reached : ((q : ℕ) → StartsWrong raw w.start q → ⊥) → HoldConstraints raw w (length w.rows)
      → IsNotOne raw w (length w.rows - 1) raw.bad w.property → IsVerdict raw w verdict.NotBad
  not_reached starts held h = record { applies = h; first = before }
    where
      before : (u : Verdict) → IsBefore u verdict.NotBad → VerdictApplies raw w u → ⊥
      before (verdict.Initial q) lt k = starts q k
      before (verdict.Constraint u q) lt k = held u q k.0 k.1
      before verdict.NotBad no' k = absurd (omega (arith, no'))
      before verdict.Confirmed no' k = absurd (omega (arith, no'))

  pub reached : ((q : ℕ) → StartsWrong raw w.start q → ⊥) → HoldConstraints raw w (length w.rows)
      → (IsNotOne raw w (length w.rows - 1) raw.bad w.property → ⊥) → IsVerdict raw w verdict.Confirmed
  reached starts held bad = record { applies = tt; first = before }
    where
      before : (u : Verdict) → IsBefore u verdict.Confirmed → VerdictApplies raw w u → ⊥
      before (verdict.Initial q) lt k = starts q k
      before (verdict.Constraint u q) lt k = held u q k.0 k.1
      before verdict.NotBad lt k = bad k
      before verdict.Confirmed no' k = absurd (omega (arith, no'))

  -- the cells after the last frame
  pub last_frame : (rest : List ℕ) (cells states : List Tern) → w.rows ≢ [] → HasRun raw w (length w.rows) rest cells states
      → HoldsAll raw w.start w.rows (length w.rows - 1) cells
  last_frame rest cells states some h = elim (cases_eq (length w.rows) 0) [
    | inl e ↦ absurd (some (nil_from_length w.rows e))
    | inr ne ↦ h.cells_are (length w.rows - 1) (omega (arith, ne))
  ]

-- the same, of a circuit and a start by other names
pub both : (P : Raw → List Tern → Type 0) {m raw : Raw} {s start : List Tern} → m ≡ raw → s ≡ start → P m s → P raw start
both P {m} {raw} {s} {start} e f h = subst (λ (t : List Tern). P raw t) f (subst (λ (r : Raw). P r s) e h)

-- what the check of the frames and of the property rests on
module _ {raw : Raw} {parts : WitnessParts} {w : Witness} (circuit : IsCircuit raw) (h : ArePartsOf raw parts w) (admitted : IsAdmitted raw w)
  where
    pub property_same : parts.property ≡ w.property
    property_same = omega (arith, h.property_is, admitted.0, circuit.formed.counts.bad)
