-- A renumbered circuit has the traces of the circuit.
use Rattle.std.proofs.Common.{◌≡◌, ◌↔◌, ℕ, zero, suc, ◌<◌, ◌≤◌, List, [], ◌∷◌, length, map, All, sym, ◌∙◌, subst, arith}
use Rattle.std.proofs.lemmas.List.Elements.{All-head, All-tail, All-map}
use Rattle.std.proofs.lemmas.Simd.{map-map}
use Rattle.aig_parts.specs.declared.latch.Latch.{Latch}
use Rattle.aig_parts.specs.declared.raw.Raw.{Raw}
use Rattle.aig_parts.specs.declared.ternary.Tern.{Tern}
use Rattle.aig_parts.specs.Literal.{variable}
use Rattle.aig_base.specs.Circuit.{IsCircuit}
use Rattle.aig_base.specs.Order.{IsCanonicalOrder}
use Rattle.aig_base.specs.Renumbered.{renumbered, renumbered_latch, renumbered_literal}
use Rattle.aig_base.specs.Sections.{IsDefined}
use Rattle.aig_base.specs.Sound.{IsSound}
use Rattle.aig_base.specs.Value.{Value, Fits}
use Rattle.aig_base.proofs.circuits.Circuits.{input_defined, latch_defined, next_defined, output_defined}
use Rattle.aig_base.proofs.lists.Gets.{All-by_get}
use Rattle.aig_base.proofs.renumbered.NoOtherValue.{no_other_value}
use Rattle.aig_base.proofs.renumbered.RenumberedValueLemmas.{renumbered_value}
use Rattle.aig_values.specs.Trace.{AreValues, IsTraceLine, AreLines}
use Rattle.aig_refute.specs.Conversion.{HaveSameTraces}

-- a statement of equal lists
same_by : {A : Type 0} (P : A → Type 0) (Q : Type 0) {x y : A} → x ≡ y → Q ↔ P y → Q ↔ P x
same_by P Q e h = subst (λ z. Q ↔ P z) (sym e) h

module _ (raw : Raw) (order : List ℕ) where
  -- the literals of the latches, and their next ones
  pub new_latches : map (λ x. x.lit) (renumbered raw order).latches
      ≡ map (renumbered_literal raw order) (map (λ x. x.lit) raw.latches)
  new_latches =
      map-map (λ (x : Latch). x.lit) (renumbered_latch raw order) raw.latches
      ∙ sym (map-map (renumbered_literal raw order) (λ (x : Latch). x.lit) raw.latches)

  pub new_nexts : map (λ x. x.next) (renumbered raw order).latches
      ≡ map (renumbered_literal raw order) (map (λ x. x.next) raw.latches)
  new_nexts =
      map-map (λ (x : Latch). x.next) (renumbered_latch raw order) raw.latches
      ∙ sym (map-map (renumbered_literal raw order) (λ (x : Latch). x.next) raw.latches)

-- each literal of a section is defined
module _ (raw : Raw) (sound : IsSound raw) where
  pub inputs_defined : All (λ l. IsDefined raw (variable l)) raw.inputs
  inputs_defined = All-by_get (λ (l : ℕ). IsDefined raw (variable l)) raw.inputs (input_defined raw)

  pub latches_defined : All (λ l. IsDefined raw (variable l)) (map (λ x. x.lit) raw.latches)
  latches_defined = All-map (λ (l : ℕ). IsDefined raw (variable l)) (λ (x : Latch). x.lit) raw.latches
      (All-by_get (λ (x : Latch). IsDefined raw (variable x.lit)) raw.latches (latch_defined raw))

  pub nexts_defined : All (λ l. IsDefined raw (variable l)) (map (λ x. x.next) raw.latches)
  nexts_defined = All-map (λ (l : ℕ). IsDefined raw (variable l)) (λ (x : Latch). x.next) raw.latches
      (All-by_get (λ (x : Latch). IsDefined raw (variable x.next)) raw.latches (next_defined raw sound))

  pub outputs_defined : All (λ l. IsDefined raw (variable l)) raw.outputs
  outputs_defined =
      All-by_get (λ (l : ℕ). IsDefined raw (variable l)) raw.outputs (output_defined raw sound)

module _ (raw : Raw) (circuit : IsCircuit raw) (order : List ℕ) (canonical : IsCanonicalOrder raw order)
    (start : List Tern) (rows : List (List Tern)) (fits : Fits raw start rows) where
  pub same_value : (t l : ℕ) (w : Tern) → t < length rows → IsDefined raw (variable l)
      → Value raw start rows t l w ↔ Value (renumbered raw order) start rows t (renumbered_literal raw order l) w
  same_value t l w lt defined = (
    λ v. renumbered_value raw circuit.sound order canonical start rows v,
    λ v. no_other_value raw circuit order canonical start rows fits t l w lt defined v,
  )

  -- the characters of some literals
  pub same_values : (t : ℕ) (literals : List ℕ) (text : List ℕ) → t < length rows
      → All (λ l. IsDefined raw (variable l)) literals
      → AreValues raw start rows t literals text
      ↔ AreValues (renumbered raw order) start rows t (map (renumbered_literal raw order) literals) text
  same_values t [] [] lt defined = (λ h. h, λ h. h)
  same_values t [] (c ∷ text) lt defined = (λ h. h, λ h. h)
  same_values t (l ∷ ls) [] lt defined = (λ h. h, λ h. h)
  same_values t (l ∷ ls) (c ∷ text) lt defined =
      let here = All-head (λ (l : ℕ). IsDefined raw (variable l)) l ls defined in
      let later = same_values t ls text lt (All-tail (λ (l : ℕ). IsDefined raw (variable l)) l ls defined) in (
        λ h. ((h.0.0, (same_value t l h.0.0 lt here).0 h.0.1, h.0.2), later.0 h.1),
        λ h. ((h.0.0, (same_value t l h.0.0 lt here).1 h.0.1, h.0.2), later.1 h.1),
      )

  -- the characters of each section
  state_same : (t : ℕ) (text : List ℕ) → t < length rows
      → AreValues raw start rows t (map (λ x. x.lit) raw.latches) text
      ↔ AreValues (renumbered raw order) start rows t (map (λ x. x.lit) (renumbered raw order).latches) text
  state_same t text lt =
      same_by (λ (ls : List ℕ). AreValues (renumbered raw order) start rows t ls text)
      (AreValues raw start rows t (map (λ x. x.lit) raw.latches) text) (new_latches raw order)
      (same_values t (map (λ x. x.lit) raw.latches) text lt (latches_defined raw circuit.sound))

  next_same : (t : ℕ) (text : List ℕ) → t < length rows
      → AreValues raw start rows t (map (λ x. x.next) raw.latches) text
      ↔ AreValues (renumbered raw order) start rows t (map (λ x. x.next) (renumbered raw order).latches) text
  next_same t text lt =
      same_by (λ (ls : List ℕ). AreValues (renumbered raw order) start rows t ls text)
      (AreValues raw start rows t (map (λ x. x.next) raw.latches) text) (new_nexts raw order)
      (same_values t (map (λ x. x.next) raw.latches) text lt (nexts_defined raw circuit.sound))

  line_same : (t : ℕ) (line : List ℕ) → t < length rows
      → IsTraceLine raw start rows t line ↔ IsTraceLine (renumbered raw order) start rows t line
  line_same t line lt = (
    λ h. record {
      state = h.state;
      inputs = h.inputs;
      outputs = h.outputs;
      next = h.next;
      state_is = (state_same t h.state lt).0 h.state_is;
      inputs_are = (same_values t raw.inputs h.inputs lt (inputs_defined raw circuit.sound)).0 h.inputs_are;
      outputs_are = (same_values t raw.outputs h.outputs lt (outputs_defined raw circuit.sound)).0 h.outputs_are;
      next_is = (next_same t h.next lt).0 h.next_is;
      line_is = h.line_is;
    },
    λ h. record {
      state = h.state;
      inputs = h.inputs;
      outputs = h.outputs;
      next = h.next;
      state_is = (state_same t h.state lt).1 h.state_is;
      inputs_are = (same_values t raw.inputs h.inputs lt (inputs_defined raw circuit.sound)).1 h.inputs_are;
      outputs_are = (same_values t raw.outputs h.outputs lt (outputs_defined raw circuit.sound)).1 h.outputs_are;
      next_is = (next_same t h.next lt).1 h.next_is;
      line_is = h.line_is;
    },
  )

  lines_same : (n : ℕ) (text : List ℕ) → n ≤ length rows
      → AreLines raw start rows n text ↔ AreLines (renumbered raw order) start rows n text
  lines_same zero text le = (λ h. h, λ h. h)
  lines_same (suc n) text le = (
    λ (before, line, lines, is, text_is).
        (before, line, (lines_same n before (omega arith)).0 lines, (line_same n line le).0 is, text_is),
    λ (before, line, lines, is, text_is).
        (before, line, (lines_same n before (omega arith)).1 lines, (line_same n line le).1 is, text_is),
  )

  pub same_traces : HaveSameTraces raw (renumbered raw order) start rows
  same_traces text = lines_same (length rows) text (omega arith)
