-- A witness has the same verdict for a circuit and its renumbered form.
use Rattle.std.proofs.Common.{◌≡◌, ◌≢◌, ◌⊎◌, ◌↔◌, inl, inr, ℕ, ◌-◌, ◌<◌, ◌≤◌, List, [], ◌∷◌, length, map}
use Rattle.std.proofs.Common.{Some, slice_get, option_map, refl, sym, ◌∙◌, ap, subst, arith}
use Rattle.std.proofs.lemmas.Option.{slice_get-map}
use Rattle.aig_base.proofs.lists.Positions.{unmap_option}
use Rattle.aig_parts.specs.declared.latch.Latch.{Latch}
use Rattle.aig_parts.specs.declared.raw.Raw.{Raw}
use Rattle.aig_parts.specs.declared.ternary.Tern.{Tern}
use Rattle.aig_parts.specs.Literal.{variable}
use Rattle.aig_base.specs.Circuit.{IsCircuit}
use Rattle.aig_base.specs.Order.{IsCanonicalOrder}
use Rattle.aig_base.specs.Renumbered.{renumbered, renumbered_latch, renumbered_literal}
use Rattle.aig_base.specs.Runs.{Allows}
use Rattle.aig_base.specs.Sections.{IsDefined}
use Rattle.aig_base.specs.Sound.{IsReset}
use Rattle.aig_base.specs.Value.{Value, Fits, reset_value}
use Rattle.aig_base.proofs.lists.Gets.{All-at}
use Rattle.aig_base.proofs.renumbered.RenumberedReady.{latch_literal}
use Rattle.aig_base.proofs.renumbered.RenumberedValueLemmas.{false_literal, true_literal}
use Rattle.aig_base.proofs.values.AllowedStarts.{over_one}
use Rattle.aig_sim.specs.declared.witness.verdict.Verdict.{Verdict}
use Rattle.aig_sim.specs.declared.witness.verdict.Verdict.TheVariants as verdict
use Rattle.aig_sim.specs.Verdict.{StartsWrong, IsNotOne, VerdictApplies}
use Rattle.aig_sim.specs.WitnessText.{Witness}
use Rattle.aig_values.proofs.PropertyLines.{bad_defined, constraint_defined}
use Rattle.aig_refute.specs.Conversion.{HaveSameVerdicts}
use Rattle.aig_refute.proofs.ConvertedTraces.{same_value}

module _ (raw : Raw) (circuit : IsCircuit raw) (order : List ℕ) (canonical : IsCanonicalOrder raw order) where
  -- a latch may start at what it may start at in the renumbered circuit
  same_allowed : (p : ℕ) (x : Latch) (w : Tern) → slice_get raw.latches p ≡ Some x
      → Allows x w ↔ Allows (renumbered_latch raw order x) w
  same_allowed p x w at = of_reset (All-at IsReset raw.latches p x circuit.sound.resets at)
    where
      new_over : 1 < renumbered_literal raw order x.lit
      new_over = omega (arith, latch_literal raw circuit.sound order canonical p x at)

      constant : x.reset ≤ 1 → renumbered_literal raw order x.reset ≡ x.reset
          → Allows x w ↔ Allows (renumbered_latch raw order x) w
      constant le is = (
        λ allowed. elim allowed [
          | inl own ↦ absurd (omega (arith, own, le, over_one raw circuit.sound p x at))
          | inr same ↦ inr (same ∙ ap reset_value (sym is))
        ],
        λ allowed. elim allowed [
          | inl own ↦ absurd (omega (arith, own, is, le, new_over))
          | inr same ↦ inr (same ∙ ap reset_value is)
        ],
      )

      of_reset : (x.reset ≡ 0) ⊎ ((x.reset ≡ 1) ⊎ (x.reset ≡ x.lit))
          → Allows x w ↔ Allows (renumbered_latch raw order x) w
      of_reset (inl e) = constant (omega (arith, e))
          (ap (renumbered_literal raw order) e ∙ false_literal raw circuit.sound order canonical ∙ sym e)
      of_reset (inr (inl e)) = constant (omega (arith, e))
          (ap (renumbered_literal raw order) e ∙ true_literal raw circuit.sound order canonical ∙ sym e)
      of_reset (inr (inr own)) = (λ _. inl (ap (renumbered_literal raw order) own), λ _. inl own)

  pub wrong_same : (start : List Tern) (p : ℕ) → StartsWrong raw start p ↔ StartsWrong (renumbered raw order) start p
  wrong_same start p = (
    λ h. record {
      latch = renumbered_latch raw order h.latch;
      value = h.value;
      latch_is = slice_get-map (renumbered_latch raw order) raw.latches p
          ∙ ap (option_map (renumbered_latch raw order)) h.latch_is;
      value_is = h.value_is;
      wrong = λ k. h.wrong ((same_allowed p h.latch h.value h.latch_is).1 k);
    },
    λ h.
        let (x, at, is) = unmap_option (renumbered_latch raw order) (slice_get raw.latches p) h.latch
        (sym (slice_get-map (renumbered_latch raw order) raw.latches p) ∙ h.latch_is) in
        record {
          latch = x;
          value = h.value;
          latch_is = at;
          value_is = h.value_is;
          wrong = λ k. h.wrong (subst (λ (y : Latch). Allows y h.value) is
              ((same_allowed p x h.value at).0 k));
        },
  )

  module _ (w : Witness) (fits : Fits raw w.start w.rows) (some : w.rows ≢ []) where
    -- a literal that is not 1
    not_one_same : (t p : ℕ) (literals : List ℕ) → t < length w.rows
        → ((q l : ℕ) → slice_get literals q ≡ Some l → IsDefined raw (variable l))
        → IsNotOne raw w t literals p
        ↔ IsNotOne (renumbered raw order) w t (map (renumbered_literal raw order) literals) p
    not_one_same t p literals lt defined = (
      λ h. record {
        literal = renumbered_literal raw order h.literal;
        value = h.value;
        literal_is = slice_get-map (renumbered_literal raw order) literals p
            ∙ ap (option_map (renumbered_literal raw order)) h.literal_is;
        value_is = (same_value raw circuit order canonical w.start w.rows fits t h.literal h.value lt
            (defined p h.literal h.literal_is)).0 h.value_is;
        not_one = h.not_one;
      },
      λ h.
          let (l, at, is) = unmap_option (renumbered_literal raw order) (slice_get literals p) h.literal
          (sym (slice_get-map (renumbered_literal raw order) literals p) ∙ h.literal_is) in
          record {
            literal = l;
            value = h.value;
            literal_is = at;
            value_is = (same_value raw circuit order canonical w.start w.rows fits t l h.value lt (defined p l at)).1
                (subst (λ (n : ℕ). Value (renumbered raw order) w.start w.rows t n h.value) (sym is) h.value_is);
            not_one = h.not_one;
          },
    )

    last : length w.rows - 1 < length w.rows
    last = go w.rows some
      where
        go : (rows : List (List Tern)) → rows ≢ [] → length rows - 1 < length rows
        go [] none = absurd (none refl)
        go (r ∷ rows) none = omega arith

    applies_same : (v : Verdict) → VerdictApplies raw w v ↔ VerdictApplies (renumbered raw order) w v
    applies_same (verdict.Initial p) = wrong_same w.start p
    applies_same (verdict.Constraint t p) = (
      λ (lt, h). (lt, (not_one_same t p raw.constraints lt (constraint_defined raw circuit.sound)).0 h),
      λ (lt, h). (lt, (not_one_same t p raw.constraints lt (constraint_defined raw circuit.sound)).1 h),
    )
    applies_same verdict.NotBad =
        not_one_same (length w.rows - 1) w.property raw.bad last (bad_defined raw circuit.sound)
    applies_same verdict.Confirmed = (λ h. h, λ h. h)

    pub same_verdicts : HaveSameVerdicts raw (renumbered raw order) w
    same_verdicts v = (
      λ h. record {
        applies = (applies_same v).0 h.applies;
        first = λ u before k. h.first u before ((applies_same u).1 k);
      },
      λ h. record {
        applies = (applies_same v).1 h.applies;
        first = λ u before k. h.first u before ((applies_same u).0 k);
      },
    )
