-- A circuit and the part of it that a property reads: what is read has the same values in both.
use Rattle.std.proofs.Common.{◌≡◌, ℕ, ◌-◌, Bool, true, List, length}
use Rattle.std.proofs.Common.{Contains, slice_get, option_map, sym, ◌∙◌, ap, subst, arith}
use Rattle.std.proofs.lemmas.List.{length-map}
use Rattle.std.proofs.lemmas.List.Elements.{All-map, All-weaker}
use Rattle.std.proofs.lemmas.Option.{slice_get-map}
use Rattle.aig_parts.specs.Literal.{variable}
use Rattle.aig_parts.specs.declared.gate.Gate.{Gate}
use Rattle.aig_parts.specs.declared.latch.Latch.{Latch}
use Rattle.aig_parts.specs.declared.raw.Raw.{Raw}
use Rattle.aig_parts.specs.declared.ternary.Tern.{Tern}
use Rattle.aig_parts.specs.declared.ternary.Tern.TheVariants.{One}
use Rattle.aig_base.specs.Part.{TestsRead, gate_marks, input_marks, latch_marks, narrowed_rows, narrowed_start}
use Rattle.aig_base.specs.Part.{part, picked}
use Rattle.aig_base.specs.Runs.{IsAllowed, ReachesBad}
use Rattle.aig_base.specs.Value as value
use Rattle.aig_base.specs.Value.{Value, Fits}
use Rattle.aig_base.proofs.lists.Positions.{unmap_option}
use Rattle.aig_cnf.proofs.PartReads.{marked_at, reads_bad, reads_constraint, reads_first, reads_next, reads_second}
use Rattle.aig_cnf.proofs.Picked.{length-picked, picked_at, picked_both}

module _ (raw : Raw) (bad : ℕ) (test : ℕ → Bool) (exact : TestsRead raw bad test) where
  abbrev small : Raw
  small = part raw bad test

  module _ (start : List Tern) (rows : List (List Tern)) where
    abbrev few : List Tern
    few = narrowed_start test raw start

    abbrev few_rows : List (List Tern)
    few_rows = narrowed_rows test raw rows

    -- a value of the part is one of the circuit
    to_whole : {t l : ℕ} {w : Tern} → Value small few few_rows t l w → Value raw start rows t l w
    to_whole (value.constant_false t) = value.constant_false t
    to_whole (value.constant_true t) = value.constant_true t
    to_whole (value.input t p l w row at is cell) =
        let (whole, here, same) = unmap_option (λ (r : List Tern). picked (input_marks test raw) r) (slice_get rows t) row
        (sym (slice_get-map (λ (r : List Tern). picked (input_marks test raw) r) rows t) ∙ is) in
        let (i, m, there, value_there) = picked_both (input_marks test raw) raw.inputs whole p l w at
        (ap (λ (r : List Tern). slice_get r p) same ∙ cell) in
        value.input t i l w whole there here value_there
    to_whole (value.latch_first p x w at is) =
        let (i, m, there, value_there) = picked_both (latch_marks test raw) raw.latches start p x w at is in
        value.latch_first i x w there value_there
    to_whole (value.latch_next t p x w at v) =
        let (i, m, there, again) = picked_both (latch_marks test raw) raw.latches raw.latches p x x at at in
        value.latch_next t i x w there (to_whole v)
    to_whole (value.gate t q g a b at va vb) =
        let (i, m, there, again) = picked_both (gate_marks test raw) raw.gates raw.gates q g g at at in
        value.gate t i g a b there (to_whole va) (to_whole vb)
    to_whole (value.negated t l w over neg v) = value.negated t l w over neg (to_whole v)

    -- and the value of what is read is one of the part
    to_part : {t l : ℕ} {w : Tern} → Value raw start rows t l w → test (variable l) ≡ true → Value small few few_rows t l w
    to_part (value.constant_false t) e = value.constant_false t
    to_part (value.constant_true t) e = value.constant_true t
    to_part (value.input t i l w row at is cell) e =
        let (p, here, there) = picked_at (input_marks test raw) raw.inputs row i l w
        (marked_at (λ (m : ℕ). test (variable m)) raw.inputs i l at e) at cell in
        value.input t p l w (picked (input_marks test raw) row) here
        (slice_get-map (λ (r : List Tern). picked (input_marks test raw) r) rows t
        ∙ ap (option_map (λ (r : List Tern). picked (input_marks test raw) r)) is) there
    to_part (value.latch_first i x w at is) e =
        let (p, here, there) = picked_at (latch_marks test raw) raw.latches start i x w
        (marked_at (λ (y : Latch). test (variable y.lit)) raw.latches i x at e) at is in
        value.latch_first p x w here there
    to_part (value.latch_next t i x w at v) e =
        let (p, here, there) = picked_at (latch_marks test raw) raw.latches raw.latches i x x
        (marked_at (λ (y : Latch). test (variable y.lit)) raw.latches i x at e) at at in
        value.latch_next t p x w here (to_part v (reads_next raw bad test exact i x at e))
    to_part (value.gate t i g a b at va vb) e =
        let (q, here, there) = picked_at (gate_marks test raw) raw.gates raw.gates i g g
        (marked_at (λ (h : Gate). test (variable h.lhs)) raw.gates i g at e) at at in
        value.gate t q g a b here (to_part va (reads_first raw bad test exact i g at e)) (to_part vb (reads_second raw bad test exact i g at e))
    to_part (value.negated t l w over neg v) e =
        let same : variable l ≡ variable (l - 1) = grind (arith, neg, over) in
        value.negated t l w over neg (to_part v (subst (λ u. test u ≡ true) same e))

    -- so both keep the constraints, and reach the property, at the same frames
    pub keeps_in_part : (t c : ℕ) → Contains raw.constraints c → Value raw start rows t c One → Value small few few_rows t c One
    keeps_in_part t c has v = to_part v (reads_constraint raw bad test exact c has)

    pub keeps_in_whole : (t c : ℕ) → Value small few few_rows t c One → Value raw start rows t c One
    keeps_in_whole t c v = to_whole v

    pub reaches_in_part : (t : ℕ) → ReachesBad raw start rows t bad → ReachesBad small few few_rows t bad
    reaches_in_part t (v, all) = (
      to_part v (reads_bad raw bad test exact),
      λ s c le has. to_part (all s c le has) (reads_constraint raw bad test exact c has),
    )

    pub reaches_in_whole : (t : ℕ) → ReachesBad small few few_rows t bad → ReachesBad raw start rows t bad
    reaches_in_whole t (v, all) = (to_whole v, λ s c le has. to_whole (all s c le has))

    pub narrowed_fits : Fits raw start rows → Fits small few few_rows
    narrowed_fits fits = record {
      latches = length-picked (latch_marks test raw) start raw.latches
          (fits.latches ∙ sym (length-map raw.latches (λ (x : Latch). test (variable x.lit))))
          (sym (length-map raw.latches (λ (x : Latch). test (variable x.lit))));
      inputs = All-map (λ (r : List Tern). length r ≡ length small.inputs) (λ (r : List Tern). picked (input_marks test raw) r) rows
          (All-weaker (λ (r : List Tern). length r ≡ length raw.inputs)
          (λ (r : List Tern). length (picked (input_marks test raw) r) ≡ length small.inputs)
          (λ r wide. length-picked (input_marks test raw) r raw.inputs
          (wide ∙ sym (length-map raw.inputs (λ (l : ℕ). test (variable l))))
          (sym (length-map raw.inputs (λ (l : ℕ). test (variable l))))) rows fits.inputs);
    }

    pub narrowed_allowed : IsAllowed raw start → IsAllowed small few
    narrowed_allowed allowed p x w at is =
        let (i, m, there, value_there) = picked_both (latch_marks test raw) raw.latches start p x w at is in
        allowed i x w there value_there
