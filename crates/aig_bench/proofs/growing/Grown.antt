-- A circuit with one more gate: what is defined, the flags, and the values in a row with one more cell.
use Rattle.std.proofs.Common.{◌≡◌, ◌⊎◌, inl, inr, ℕ, ◌+◌, ◌*◌, ◌≤◌, Bool, true, List, [], ◌∷◌, ◌++◌, map, length, Some}
use Rattle.std.proofs.Common.{slice_get, slice_set, Contains, refl, sym, ap, ◌∙◌, subst, arith, length-append}
use Rattle.std.proofs.lemmas.List.{length-set}
use Rattle.std.proofs.lemmas.List.Elements.{Contains-push_cases}
use Rattle.aig_parts.specs.declared.ternary.Tern.{Tern}
use Rattle.aig_parts.specs.declared.ternary.Tern.TheVariants.{X}
use Rattle.aig_parts.specs.declared.gate.Gate.{Gate}
use Rattle.aig_parts.specs.declared.raw.Raw.{Raw}
use Rattle.aig_base.specs.Changes.{next_gate, with_appended_gate}
use Rattle.aig_parts.specs.Literal.{variable}
use Rattle.aig_base.specs.Sections.{definitions, IsDefined, IsGate}
use Rattle.aig_base.specs.Sound.{IsSound}
use Rattle.aig_base.proofs.growth.Appended.{gate_cases, more_sound, new_at, new_variable, old_at, more_variables}
use Rattle.aig_base.proofs.circuits.Gates as gates
use Rattle.aig_base.proofs.lists.Gets.{slice_get_last}
use Rattle.aig_values.specs.Cells.{gate_value, with_new_cell}
use Rattle.aig_bench.specs.state.Current.{AreGateFlags, IsCurrentRow, HoldsInPair}
use Rattle.aig_bench.specs.BenchState.{CircuitAndRows, HasValue}
use Rattle.aig_bench.proofs.cells.CellLemmas.{get_set_other, get_set_same}
use Rattle.aig_bench.proofs.renewals.Changed.{slice_get_append}
use Rattle.aig_bench.proofs.cells.Kept.{HasAll, holds_still}
use Rattle.aig_bench.proofs.cells.NewGrids.{flags_all, flags_more}
use Rattle.aig_bench.proofs.cells.Values.{gate_has_value}

module _ (raw : Raw) (r0 r1 : ℕ) where
  pub has_all : HasAll raw (with_appended_gate raw r0 r1)
  has_all = record { inputs = refl; latches = refl; gates = old_at raw r0 r1 }

  pub defined_cases : (v : ℕ) → IsDefined (with_appended_gate raw r0 r1) v → IsDefined raw v ⊎ (v ≡ raw.max_var + 1)
  defined_cases v h =
      elim (Contains-push_cases (0 ∷ map variable (definitions raw)) (variable (2 * (raw.max_var + 1))) v
      (subst (λ vs. Contains (0 ∷ vs) v) (more_variables raw r0 r1) h)) [
        | inl was ↦ inl was
        | inr e ↦ inr (let is = new_variable raw r0 r1 in omega arith)
      ]

  pub gate_now : (v : ℕ) → IsGate raw v → IsGate (with_appended_gate raw r0 r1) v
  gate_now v h =
      let (g, q, at, is) = gates.gate_of raw v h in
      subst (IsGate (with_appended_gate raw r0 r1)) is
      (gates.IsGate-of_gate (with_appended_gate raw r0 r1) q g (old_at raw r0 r1 q g at))

  pub gate_is_new : IsGate (with_appended_gate raw r0 r1) (raw.max_var + 1)
  gate_is_new =
      subst (IsGate (with_appended_gate raw r0 r1)) (new_variable raw r0 r1)
      (gates.IsGate-of_gate (with_appended_gate raw r0 r1) (length raw.gates) (next_gate raw r0 r1) (new_at raw r0 r1))

  pub gate_was : (v : ℕ) → IsGate (with_appended_gate raw r0 r1) v → IsGate raw v ⊎ (v ≡ raw.max_var + 1)
  gate_was v h =
      let (g, q, at, is) = gates.gate_of (with_appended_gate raw r0 r1) v h in
      elim (gate_cases raw r0 r1 q g at) [
        | inl here ↦ inl (subst (IsGate raw) is (gates.IsGate-of_gate raw q g here))
        | inr e ↦ inr (sym is ∙ ap (λ (x : Gate). variable x.lhs) (sym e.1) ∙ new_variable raw r0 r1)
      ]

  pub flags_grown : (flags more : List Bool) → AreGateFlags raw flags → more ≡ flags ++ true ∷ []
      → AreGateFlags (with_appended_gate raw r0 r1) more
  flags_grown flags more h e =
      subst (AreGateFlags (with_appended_gate raw r0 r1)) (sym e)
      (flags_all (with_appended_gate raw r0 r1) (flags ++ true ∷ [])
      (flags_more (with_appended_gate raw r0 r1) (raw.max_var + 1) flags true
      (record {
        size = h.size;
        gates = λ v lt k. elim (gate_was v k) [
          | inl was ↦ h.gates v (omega arith) was
          | inr is ↦ absurd (omega arith)
        ];
        others = λ v lt k. h.others v (omega arith) (λ was. k (gate_now v was));
      })
      (λ t. gate_is_new, λ g. refl)))

  -- the flag of the new gate
  pub new_flag : (flags more : List Bool) → length flags ≡ raw.max_var + 1 → more ≡ flags ++ true ∷ []
      → slice_get more (variable (next_gate raw r0 r1).lhs) ≡ Some true
  new_flag flags more size e =
      let place : variable (next_gate raw r0 r1).lhs ≡ length flags = new_variable raw r0 r1 ∙ sym size in
      ap (slice_get more) place ∙ ap (λ (fs : List Bool). slice_get fs (length flags)) e ∙ slice_get_last flags true

-- a row with the new gate's value in its new cell
module _ (raw : Raw) (r0 r1 : ℕ) (row : List Tern) (w : Tern) (wide : length row ≡ raw.max_var + 1) where
  abbrev grown : List Tern
  grown = slice_set (with_new_cell row) (variable (next_gate raw r0 r1).lhs) w

  pub cell_old : (v : ℕ) → v ≤ raw.max_var → slice_get (with_new_cell row) v ≡ slice_get row v
  cell_old v le = slice_get_append row (X ∷ []) v X (omega arith)

  pub grown_old : (v : ℕ) → v ≤ raw.max_var → slice_get grown v ≡ slice_get row v
  grown_old v le =
      get_set_other (with_new_cell row) (variable (next_gate raw r0 r1).lhs) v w
      (λ e. let is = new_variable raw r0 r1 in omega arith)
      ∙ cell_old v le

  wider : length (with_new_cell row) ≡ raw.max_var + 1 + 1
  wider = length-append row (X ∷ []) ∙ ap (λ n. n + 1) wide

  pub grown_width : length grown ≡ raw.max_var + 1 + 1
  grown_width = length-set (with_new_cell row) (variable (next_gate raw r0 r1).lhs) w ∙ wider

  pub grown_new : slice_get grown (variable (next_gate raw r0 r1).lhs) ≡ Some w
  grown_new =
      get_set_same (with_new_cell row) (variable (next_gate raw r0 r1).lhs) w
      (let is = new_variable raw r0 r1 in omega (arith, wider))

-- a current row, grown by the gate's value, is current for the circuit with the gate
module _ (p : CircuitAndRows) (r0 r1 : ℕ) (sound : IsSound p.circuit) (d0 : IsDefined p.circuit (variable r0))
    (d1 : IsDefined p.circuit (variable r1)) (t : ℕ) (row : List Tern) (wide : length row ≡ p.circuit.max_var + 1)
    (now : IsCurrentRow p t row) where
  abbrev more : Raw
  more = with_appended_gate p.circuit r0 r1

  abbrev after : CircuitAndRows
  after = record p { circuit = more }

  abbrev value : Tern
  value = gate_value (with_new_cell row) (next_gate p.circuit r0 r1)

  side_holds : (v : ℕ) → IsDefined p.circuit v → HoldsInPair after t (with_new_cell row) v
  side_holds v d =
      holds_still p more (has_all p.circuit r0 r1) t v row (with_new_cell row)
      (cell_old p.circuit r0 r1 row X wide v (gates.defined_in_range p.circuit sound v d)) (now v d)

  new_value : HasValue after t (2 * variable (next_gate p.circuit r0 r1).lhs) value
  new_value =
      gate_has_value after t (with_new_cell row) (length p.circuit.gates) (next_gate p.circuit r0 r1)
      (more_sound p.circuit r0 r1 sound d0 d1) (new_at p.circuit r0 r1) (side_holds (variable r0) d0)
      (side_holds (variable r1) d1)

  pub grown_current : IsCurrentRow after t (grown p.circuit r0 r1 row value wide)
  grown_current v d = elim (defined_cases p.circuit r0 r1 v d) [
    | inl was ↦
        holds_still p more (has_all p.circuit r0 r1) t v row (grown p.circuit r0 r1 row value wide)
        (grown_old p.circuit r0 r1 row value wide v (gates.defined_in_range p.circuit sound v was)) (now v was)
    | inr e ↦
        subst (HoldsInPair after t (grown p.circuit r0 r1 row value wide)) (new_variable p.circuit r0 r1 ∙ sym e)
        (record { cell = value; cell_is = grown_new p.circuit r0 r1 row value wide; value_is = new_value })
  ]
