-- What a run shows of a witness while it is recorded, frame by frame.
use Rattle.std.proofs.Common.{◌≡◌, ◌≢◌, inl, inr, ℕ, suc, ◌+◌, ◌-◌, ◌^◌, ◌<◌, ◌≤◌, min, List, [], ◌∷◌, ◌++◌, length, Option, None, Some}
use Rattle.std.proofs.Common.{slice_get, sym, ap, ◌∙◌, subst, arith}
use Rattle.std.specs.Prelude.{IfNone, IfSome}
use Rattle.std.proofs.lemmas.Bool.{cases_eq}
use Rattle.std.proofs.lemmas.Option.{slice_get_within}
use Rattle.std.proofs.lemmas.List.{length-append, nil_from_length}
use Rattle.aig_parts.specs.declared.ternary.Tern.{Tern}
use Rattle.aig_parts.specs.declared.ternary.Tern.TheVariants.{One}
use Rattle.aig_parts.specs.declared.raw.Raw.{Raw}
use Rattle.aig_parts.specs.Literal.{variable}
use Rattle.aig_base.specs.Sound.{IsSound}
use Rattle.aig_base.specs.Value.{Value}
use Rattle.aig_base.proofs.values.UniqueValue.{unique}
use Rattle.aig_values.specs.Cells.{literal_value}
use Rattle.aig_values.specs.state.Frame.{HoldsAll}
use Rattle.aig_values.proofs.Evaluation.{literal_has_value}
use Rattle.aig_values.proofs.PropertyLines.{bad_defined, constraint_defined}
use Rattle.aig_values.proofs.TraceLemmas.{value_stays}
use Rattle.aig_sim.specs.declared.witness.judging.FailedConstraint.{FailedConstraint}
use Rattle.aig_sim.specs.declared.witness.judging.Judgement.{Judgement}
use Rattle.aig_parts.specs.Limits.{frame_limit}
use Rattle.aig_sim.specs.Verdict.{IsNotOne, StartsWrong}
use Rattle.aig_sim.specs.WitnessText.{Witness}
use Rattle.aig_sim.specs.state.Checking.{HoldConstraints, IsFirstFailure, ReadsNotOne}
use Rattle.aig_sim.specs.state.Judging.{AreHeld, AreOneBefore, FailsFirst, HasJudged, JudgesRun, StartsWrongFirst, run_of}
use Rattle.aig_sim.proofs.ReachedLemmas.{one_or_not}
use Rattle.aig_sim.proofs.VerdictLemmas.{shows_not_one, shown_not_one}

-- ---- the same of more rows
module _ {raw : Raw} (start : List Tern) (rows more : List (List Tern)) where
  one_still : {t end : ℕ} → AreOneBefore raw start rows t end
      → AreOneBefore raw start (rows ++ more) t end
  one_still h p l lt at = value_stays more (h p l lt at)

  pub held_still : {t : ℕ} → AreHeld raw start rows t → AreHeld raw start (rows ++ more) t
  held_still h u lt = one_still (h u lt)

  not_one_still : {t p : ℕ} {literals : List ℕ} → IsNotOne raw (run_of start rows) t literals p
      → IsNotOne raw (run_of start (rows ++ more)) t literals p
  not_one_still h = record {
    literal = h.literal;
    value = h.value;
    literal_is = h.literal_is;
    value_is = value_stays more h.value_is;
    not_one = h.not_one;
  }

  pub fails_still : {at : FailedConstraint} → FailsFirst raw start rows at
      → FailsFirst raw start (rows ++ more) at
  fails_still h = record {
    frame = (let n = length-append rows more in let lt = h.frame in omega (arith, n, lt));
    fails = not_one_still h.fails;
    frames_before = held_still h.frames_before;
    before = one_still h.before;
  }

-- ---- one more frame
module _ {raw : Raw} (sound : IsSound raw) (start : List Tern) (rows : List (List Tern)) (row : List Tern)
    (cells : List Tern) (holds : HoldsAll raw start (rows ++ row ∷ []) (length rows) cells) where
  one_by : (end : ℕ) → ((q : ℕ) → q < end → ReadsNotOne cells raw.constraints q → ⊥)
      → AreOneBefore raw start (rows ++ row ∷ []) (length rows) end
  one_by end none p l lt at =
      let value = literal_has_value raw start (rows ++ row ∷ []) (length rows) cells l sound
      (holds (variable l) (constraint_defined raw sound p l at)) in
      elim (one_or_not (literal_value cells l)) [
        | inl e ↦ subst (λ (v : Tern). Value raw start (rows ++ row ∷ []) (length rows) l v) e value
        | inr ne ↦ absurd (none p lt (record { literal = l; literal_is = at; not_one = ne }))
      ]

  pub held_more : AreHeld raw start rows (length rows)
      → ((q : ℕ) → ReadsNotOne cells raw.constraints q → ⊥)
      → AreHeld raw start (rows ++ row ∷ []) (length (rows ++ row ∷ []))
  held_more h none u lt = elim (cases_eq u (length rows)) [
    | inl e ↦ subst (λ (t : ℕ). AreOneBefore raw start (rows ++ row ∷ []) t (length raw.constraints)) (sym e)
        (one_by (length raw.constraints) (λ q below. none q))
    | inr ne ↦ held_still start rows (row ∷ []) h u (let n = length-append rows (row ∷ []) in omega (arith, lt, ne, n))
  ]

  pub fails_here : (at : FailedConstraint) → at.frame ≡ min (length rows) (2 ^ 32 - 1)
      → AreHeld raw start rows (length rows)
      → ReadsNotOne cells raw.constraints at.position
      → ((q : ℕ) → q < at.position → ReadsNotOne cells raw.constraints q → ⊥)
      → length (rows ++ row ∷ []) < 2 ^ 32
      → FailsFirst raw start (rows ++ row ∷ []) at
  fails_here at number h fails least few =
      let w = run_of start (rows ++ row ∷ []) in
      let n = length-append rows (row ∷ []) in
      let here : length rows ≡ at.frame = omega (arith, number, few, n) in
      record {
        frame = omega (arith, here, n);
        fails = subst (λ (t : ℕ). IsNotOne raw w t raw.constraints at.position) here
            (shows_not_one raw sound w (length rows) cells holds raw.constraints (constraint_defined raw sound) at.position fails);
        frames_before = subst (AreHeld raw start (rows ++ row ∷ [])) here (held_still start rows (row ∷ []) h);
        before = subst (λ (t : ℕ). AreOneBefore raw start (rows ++ row ∷ []) t at.position) here (one_by at.position least);
      }

  -- of the first failure of this frame, if one is there
  pub judged_here : (found : Option FailedConstraint) → AreHeld raw start rows (length rows)
      → IfSome found (λ at. at.frame ≡ min (length rows) (2 ^ 32 - 1))
      → IfSome found (λ at. ReadsNotOne cells raw.constraints at.position)
      → IfSome found (λ at. (q : ℕ) → q < at.position → ReadsNotOne cells raw.constraints q → ⊥)
      → IfNone found ((q : ℕ) → ReadsNotOne cells raw.constraints q → ⊥)
      → IfSome found (λ at. length (rows ++ row ∷ []) < 2 ^ 32 → FailsFirst raw start (rows ++ row ∷ []) at)
      × IfNone found (AreHeld raw start (rows ++ row ∷ []) (length (rows ++ row ∷ [])))
  judged_here (Some at) held number fails least none = (fails_here at number held fails least, tt)
  judged_here None held number fails least none = (tt, held_more held none)

-- ---- the verdict
module _ {raw : Raw} (sound : IsSound raw) (w : Witness) where
  one_is_one : {t p end : ℕ} → AreOneBefore raw w.start w.rows t end → p < end → IsNotOne raw w t raw.constraints p → ⊥
  one_is_one {p} ones lt h =
      h.not_one (unique raw w.start w.rows sound h.value_is (ones p h.literal lt h.literal_is))

  pub held_so : (t : ℕ) → AreHeld raw w.start w.rows t → HoldConstraints raw w t
  held_so t h u q lt is =
      one_is_one (h u lt) (slice_get_within raw.constraints q is.literal is.literal_is) is

  pub fails_so : {at : FailedConstraint} → FailsFirst raw w.start w.rows at → IsFirstFailure raw w at.frame at.position
  fails_so {at} h = record {
    frame = h.frame;
    fails = record {
      literal = h.fails.literal;
      value = h.fails.value;
      literal_is = h.fails.literal_is;
      value_is = h.fails.value_is;
      not_one = h.fails.not_one;
    };
    frames_before = held_so at.frame h.frames_before;
    before = λ q lt is. one_is_one h.before lt is;
  }

-- what was found of the start is the first such latch
pub wrong_first : (raw : Raw) (start : List Tern) (wrong : Option ℕ) → IfSome wrong (StartsWrong raw start)
    → IfSome wrong (λ p. (q : ℕ) → q < p → StartsWrong raw start q → ⊥) → IfSome wrong (StartsWrongFirst raw start)
wrong_first raw start (Some p) is least = record { wrong = is; before = least }
wrong_first raw start None is least = tt

-- what the cells at the last frame show of the property
module _ {raw : Raw} (sound : IsSound raw) {w : Witness} {cells : List Tern} (some : w.rows ≢ [])
    (cells_are : (u : ℕ) → length w.rows ≡ suc u → HoldsAll raw w.start w.rows u cells) {p : ℕ} (same : p ≡ w.property) where
  last_cells : HoldsAll raw w.start w.rows (length w.rows - 1) cells
  last_cells = elim (cases_eq (length w.rows) 0) [
    | inl e ↦ absurd (some (nil_from_length w.rows e))
    | inr ne ↦ cells_are (length w.rows - 1) (omega (arith, ne))
  ]

  pub bad_so : (ReadsNotOne cells raw.bad p → ⊥) → IsNotOne raw w (length w.rows - 1) raw.bad w.property → ⊥
  bad_so none h =
      none (subst (ReadsNotOne cells raw.bad) (sym same)
      (shown_not_one raw sound w (length w.rows - 1) cells last_cells raw.bad (bad_defined raw sound) w.property h))

  pub not_bad_so : ReadsNotOne cells raw.bad p → IsNotOne raw w (length w.rows - 1) raw.bad w.property
  not_bad_so is =
      shows_not_one raw sound w (length w.rows - 1) cells last_cells raw.bad (bad_defined raw sound) w.property
      (subst (ReadsNotOne cells raw.bad) same is)

-- the same of a circuit by another name
pub judged_run : {raw raw' : Raw} {w : Witness} {cells : List Tern} {judgement : Judgement} → raw' ≡ raw → w.rows ≢ []
    → length w.rows ≤ frame_limit → HasJudged raw w.start w.rows judgement
    → ((u : ℕ) → length w.rows ≡ suc u → HoldsAll raw w.start w.rows u cells) → JudgesRun raw' w cells judgement
judged_run {w} {cells} {judgement} same some few judged cells_are =
    subst (λ (r : Raw). JudgesRun r w cells judgement) (sym same)
    (record { some = some; few = few; judged = judged; cells_are = cells_are })
