-- A frame that is swept: its sources have their values, and all gates are evaluated in an order.
use Rattle.std.proofs.Common.{◌≡◌, ◌≢◌, inl, inr, ℕ, zero, suc, ◌+◌, ◌<◌, ◌≤◌, Bool, List, [], ◌∷◌, All, fold, length}
use Rattle.std.proofs.Common.{take, get_or, Some, slice_get, slice_set, refl, sym, ap, ◌∙◌, subst, arith}
use Rattle.std.proofs.lemmas.Bool.{cases_eq}
use Rattle.std.proofs.lemmas.List.{get_or-set_other, get_or-set_same, length-set, take_all}
use Rattle.std.proofs.lemmas.List.Sums.{fold_more}
use Rattle.std.proofs.lemmas.Option.{slice_get-get_or}
use Rattle.aig_parts.specs.declared.gate.Gate.{Gate}
use Rattle.aig_parts.specs.declared.raw.Raw.{Raw}
use Rattle.aig_parts.specs.declared.ternary.Tern.{Tern}
use Rattle.aig_base.specs.Circuit.{IsCircuit}
use Rattle.aig_base.specs.Grounded as by
use Rattle.aig_base.specs.Grounded.{IsSource}
use Rattle.aig_parts.specs.Literal.{variable}
use Rattle.aig_base.specs.Sound.{IsSound}
use Rattle.aig_base.specs.Value.{start_of}
use Rattle.aig_base.proofs.circuits.Circuits.{gate_definition, gate_in_range}
use Rattle.aig_base.proofs.circuits.Gates.{level_in_range}
use Rattle.aig_values.specs.Cells.{HasCells, gate_value, with_gate_value, with_swept_row}
use Rattle.aig_values.specs.state.Frame.{HoldsAll, HoldsSources}
use Rattle.aig_values.specs.GateOrder.{IsGateOrder}
use Rattle.aig_values.specs.InputRows.{row_at, with_cell}
use Rattle.aig_values.proofs.Evaluation.{HoldsFirst, all_hold, gate_value_is, items_more, put_value, renews_none}
use Rattle.aig_values.proofs.SweepLemmas.{length-swept}
use Rattle.aig_bench.specs.state.Current.{AreGateFlags, HoldsInputsInPair, HoldsLatchesInPair, IsCurrentRow, IsLaidOut}
use Rattle.aig_bench.specs.declared.engine.driven_circuit.DrivenCircuit.{DrivenCircuit}
use Rattle.aig_bench.specs.state.SweepOrder.{IsFullOrder}
use Rattle.aig_bench.specs.state.DrivenCircuit.{IsDriven, pair_of}
use Rattle.aig_bench.proofs.cells.CellLemmas.{get_set_other, row_written}
use Rattle.aig_bench.proofs.cells.Flags.{gate_cells}
use Rattle.aig_bench.proofs.cells.Values.{sources_hold}

-- the gates of an order can be evaluated
pub have_cells : (raw : Raw) (flags : List Bool) (gates : List Gate) → IsCircuit raw → AreGateFlags raw flags
    → IsGateOrder raw gates → All (HasCells flags) gates
have_cells raw flags gates circuit h order k d lt =
    let g : Gate = get_or gates k d in
    let (r, stands) = order.known k g (slice_get-get_or gates k d lt) in
    gate_cells raw flags r g circuit.sound h stands

-- sources that have their values, and then all gates in an order
module _ (raw : Raw) (start : List Tern) (rows : List (List Tern)) (t : ℕ) (sound : IsSound raw) (gates : List Gate)
    (order : IsGateOrder raw gates) (row : List Tern) (wide : length row ≡ raw.max_var + 1)
    (sources : HoldsSources raw start rows t row) where
  abbrev after : ℕ → List Tern
  after n = fold with_gate_value row (take n gates)

  swept : (n : ℕ) → n ≤ length gates
      → HoldsSources raw start rows t (after n) × HoldsFirst raw start rows t gates n (after n)
  swept zero le = (sources, λ r g lt. absurd (omega arith))
  swept (suc n) le =
      let none : Gate = record { lhs = 0; rhs0 = 0; rhs1 = 0 } in
      let g : Gate = get_or gates n none in
      let at : slice_get gates n ≡ Some g = slice_get-get_or gates n none (omega arith) in
      let (r, stands) = order.known n g at in
      let range = gate_in_range raw sound r g stands in
      let (held, first) = swept n (omega arith) in
      let room : variable g.lhs < length (after n) = omega (arith, length-swept row (take n gates), wide, range) in
      let put = put_value raw start rows t (after n) (after n) (variable g.lhs) (variable g.lhs) (gate_value (after n) g)
      refl room (gate_value_is raw start rows t gates n g (after n) sound order at held first)
      (renews_none raw start rows t (after n)) in
      let one : n + 1 ≡ suc n = omega arith in
      let next : with_gate_value (after n) g ≡ after (suc n) =
      sym (fold_more with_gate_value row gates n none (omega arith)) ∙ ap after one in (
        subst (HoldsSources raw start rows t) next (λ v s. put.1.keeps v (held v s)),
        subst (HoldsFirst raw start rows t gates (suc n)) next
            (λ i k lt is. items_more
            (λ x. Rattle.aig_values.specs.state.Frame.Holds raw start rows t (with_gate_value (after n) g) (variable x.lhs)) gates n g at
            (λ j x below here. put.1.keeps (variable x.lhs) (first j x below here)) put.2 i k (omega arith) is),
      )

  pub swept_holds : HoldsAll raw start rows t (fold with_gate_value row gates)
  swept_holds =
      let (held, first) = swept (length gates) (omega arith) in
      let all : after (length gates) ≡ fold with_gate_value row gates =
      ap (fold with_gate_value row) (take_all (length gates) gates (omega arith)) in
      subst (HoldsAll raw start rows t) all (all_hold raw start rows t gates (after (length gates)) order held first)

-- a source that is put in a grid for a driven circuit
pub row_put : (driven : DrivenCircuit) (flags : List Bool) (old new : List (List Tern)) (t v : ℕ) (w : Tern) → IsLaidOut driven flags old
    → t < length driven.stimulus.rows → new ≡ with_cell old t v w → row_at new t ≡ slice_set (row_at old t) v w
row_put driven flags old new t v w h lt is =
    ap (λ (rows : List (List Tern)). row_at rows t) is ∙ row_written old t v w (omega (arith, h.rows_are.frames_are))

pub source_inside : (driven : DrivenCircuit) (flags : List Bool) (cells : List (List Tern)) (t v : ℕ) → IsDriven driven
    → IsLaidOut driven flags cells → t < length driven.stimulus.rows → IsSource driven.circuit v → v < length (row_at cells t)
source_inside driven flags cells t v p h lt source =
    omega (arith, level_in_range driven.circuit p.circuit.sound (by.Level.source v source), h.rows_are.widths t lt)

-- variable 0 is no gate's
kept_zero : (row : List Tern) (gates : List Gate) → All (λ g. 0 < variable g.lhs) gates
    → slice_get (fold with_gate_value row gates) 0 ≡ slice_get row 0
kept_zero row [] all = refl
kept_zero row (g ∷ gates) all =
    kept_zero (with_gate_value row g) gates (λ k d lt. all (suc k) d (omega arith))
    ∙ get_set_other row (variable g.lhs) 0 (gate_value row g)
    (λ e. let positive = all 0 g (omega arith) in absurd (omega arith))

positive_sides : (raw : Raw) (gates : List Gate) → IsSound raw → IsGateOrder raw gates → All (λ g. 0 < variable g.lhs) gates
positive_sides raw gates sound order k d lt =
    let (r, stands) = order.known k (get_or gates k d) (slice_get-get_or gates k d lt) in
    let definition = gate_definition raw sound r (get_or gates k d) stands in
    omega (arith, definition)

-- a grid for a driven circuit in which all gates were swept at a frame
module _ (driven : DrivenCircuit) (flags flags' : List Bool) (old new : List (List Tern)) (t : ℕ) (gates : List Gate) (p : IsDriven driven)
    (h : IsLaidOut driven flags old) (lt : t < length driven.stimulus.rows) (full : IsFullOrder driven.circuit gates)
    (e : new ≡ with_swept_row old t gates) where
  row_is : row_at new t ≡ fold with_gate_value (row_at old t) gates
  row_is =
      ap (λ (rows : List (List Tern)). row_at rows t) e
      ∙ get_or-set_same old t (fold with_gate_value (row_at old t) gates) [] (omega (arith, h.rows_are.frames_are))

  pub row_kept : (u : ℕ) → u ≢ t → row_at new u ≡ row_at old u
  row_kept u ne =
      ap (λ (rows : List (List Tern)). row_at rows u) e
      ∙ get_or-set_other old t u (fold with_gate_value (row_at old t) gates) [] ne

  pub laid_out_swept : flags' ≡ flags → IsLaidOut driven flags' new
  laid_out_swept same = record {
    flags_are = subst (AreGateFlags driven.circuit) (sym same) h.flags_are;
    rows_are = record {
      frames_are = ap length e ∙ length-set old t _ ∙ h.rows_are.frames_are;
      widths = λ s below. elim (cases_eq s t) [
        | inl k ↦ ap (λ (n : ℕ). length (row_at new n)) k ∙ ap length row_is ∙ length-swept (row_at old t) gates
            ∙ h.rows_are.widths t lt
        | inr ne ↦ ap length (row_kept s ne) ∙ h.rows_are.widths s below
      ];
      constants = λ s below. elim (cases_eq s t) [
        | inl k ↦ ap (λ (n : ℕ). slice_get (row_at new n) 0) k ∙ ap (λ (row : List Tern). slice_get row 0) row_is
            ∙ kept_zero (row_at old t) gates (positive_sides driven.circuit gates p.circuit.sound full.order)
            ∙ h.rows_are.constants t lt
        | inr ne ↦ ap (λ (row : List Tern). slice_get row 0) (row_kept s ne) ∙ h.rows_are.constants s below
      ];
    };
  }

  pub current_swept : HoldsInputsInPair (pair_of driven) t (row_at old t) → HoldsLatchesInPair (pair_of driven) t (row_at old t)
      → IsCurrentRow (pair_of driven) t (row_at new t)
  current_swept inputs latches =
      subst (IsCurrentRow (pair_of driven) t) (sym row_is)
      (swept_holds driven.circuit (start_of driven.circuit) driven.stimulus.rows t p.circuit.sound gates full.order (row_at old t)
      (h.rows_are.widths t lt)
      (sources_hold (pair_of driven) t (row_at old t) (h.rows_are.constants t lt) inputs latches))
