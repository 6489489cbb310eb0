-- The renumbered parts are a circuit.
use Rattle.std.proofs.Common.{◌≡◌, inl, inr, ℕ, zero, suc, ◌+◌, ◌<◌, ◌≤◌, List, length, map, get_or, nat_lt, Bool, true}
use Rattle.std.proofs.Common.{false, All, Some, slice_get, refl, ◌∙◌, ap, subst, arith}
use Rattle.std.proofs.lemmas.List.Elements.{All-same, All-map, All-append, All-weaker, All-contains}
use Rattle.std.proofs.lemmas.Option.{slice_get_within, get_or_from_slice_get}
use Rattle.aig_parts.specs.declared.gate.Gate.{Gate}
use Rattle.aig_parts.specs.declared.latch.Latch.{Latch}
use Rattle.aig_parts.specs.declared.raw.Raw.{Raw}
use Rattle.aig_base.specs.Circuit.{IsCircuit}
use Rattle.aig_parts.specs.Formed.{IsFormed}
use Rattle.aig_base.specs.Grounded as grounded
use Rattle.aig_base.specs.Grounded.{Grounded, IsSource, IsAcyclic}
use Rattle.aig_parts.specs.Literal.{variable}
use Rattle.aig_base.specs.Order.{IsCanonicalOrder}
use Rattle.aig_base.specs.Renumbered.{ordered_gates, renumbered, renumbered_gate, renumbered_latch, renumbered_literal}
use Rattle.aig_base.specs.Renumbered.{ready_gate, evens, IsBinaryReady}
use Rattle.aig_base.specs.Sections.{definitions, uses, IsDefined}
use Rattle.aig_base.specs.Sound.{IsSound, IsInRange, IsReset}
use Rattle.aig_base.proofs.lists.Counting.{length-order}
use Rattle.aig_base.proofs.circuits.Defined.{defined_cases}
use Rattle.aig_base.proofs.circuits.EachUse.{EachUse, all_uses}
use Rattle.aig_base.proofs.lists.Evens.{evens_are, length-evens_from, get_or-evens_from}
use Rattle.aig_base.proofs.circuits.InOrder.{defined_to, once_only}
use Rattle.aig_base.proofs.circuits.Places.{gate, IsDefinition-of_definitions}
use Rattle.aig_base.proofs.lists.Positions.{unmap}
use Rattle.aig_base.proofs.renumbered.Renumberings.{definition_of_place}
use Rattle.aig_base.proofs.renumbered.RenumberedParts.{renumbered_formed, variable_bound}
use Rattle.aig_base.proofs.renumbered.RenumberedReady.{renumbered_ready, literal_bound}
use Rattle.aig_base.proofs.renumbered.RenumberedValueLemmas.{false_literal, true_literal}

-- parts that a binary file can hold, whose literals are in range
module _ (raw : Raw) (ready : IsBinaryReady raw) (used : All (IsInRange raw) (uses raw)) where
  -- by the size of the variable
  grounded_below : (n v : ℕ) → v < n → v ≤ raw.max_var → Grounded raw v
  grounded_below zero v lt le = absurd (omega arith)
  grounded_below (suc n) v lt le = elim (defined_cases raw v (defined_to raw ready.in_order v le)) [
    | inl source ↦ grounded.Grounded.source v source
    | inr is_gate ↦ from_gate (unmap (λ (g : Gate). variable g.lhs) raw.gates v is_gate) (grounded_below n)
  ]
    where
      from_gate : (g : Gate) × (q : ℕ) × (slice_get raw.gates q ≡ Some g) × (variable g.lhs ≡ v)
          → ((u : ℕ) → u < n → u ≤ raw.max_var → Grounded raw u) → Grounded raw v
      from_gate (g, q, at, is) below =
          let defs = evens_are (definitions raw) raw.max_var ready.in_order in
          let d = IsDefinition-of_definitions raw defs (gate q) g.lhs tt (g, at, refl) in
          let inside = slice_get_within raw.gates q g at in
          let sides = subst (λ (h : Gate). (h.rhs0 < h.lhs) × (h.rhs1 ≤ h.rhs0))
          (get_or_from_slice_get raw.gates q g g at) (ready.gates q g inside) in
          subst (Grounded raw) is (grounded.Grounded.gate q g at
          (below (variable g.rhs0) (omega arith) (omega arith))
          (below (variable g.rhs1) (omega arith) (omega arith)))

  half : (l : ℕ) → IsInRange raw l → variable l ≤ raw.max_var
  half l r = omega arith

  in_evens : All (IsInRange raw) (evens raw.max_var)
  in_evens k d lt =
      let below : k < raw.max_var = omega (arith, length-evens_from 1 raw.max_var) in
      let e = get_or-evens_from 1 raw.max_var k d below in omega arith

  in_definitions : All (IsInRange raw) (definitions raw)
  in_definitions = All-same (IsInRange raw) (definitions raw) (evens raw.max_var) ready.in_order in_evens

  pub ready_sound : All IsReset raw.latches → IsSound raw
  ready_sound resets = record {
    in_range = All-append (IsInRange raw) (definitions raw) (uses raw) in_definitions used;
    definitions = evens_are (definitions raw) raw.max_var ready.in_order;
    once = once_only raw ready.in_order;
    defined = All-weaker (IsInRange raw) (λ l. IsDefined raw (variable l))
        (λ l r. defined_to raw ready.in_order (variable l) (half l r)) (uses raw) used;
    resets = resets;
  }

  pub ready_acyclic : IsAcyclic raw
  ready_acyclic v is_gate =
      let (g, q, at, is) = unmap (λ (g : Gate). variable g.lhs) raw.gates v is_gate in
      let inside : IsInRange raw g.lhs = All-contains (IsInRange raw) (definitions raw) g.lhs in_definitions
      (definition_of_place raw (gate q) g.lhs tt (g, at, refl)) in
      grounded_below (suc v) v (omega arith) (rw (← is) (half g.lhs inside))

  pub ready_circuit : IsFormed raw → All IsReset raw.latches → IsCircuit raw
  ready_circuit formed resets = record { formed = formed; sound = ready_sound resets; acyclic = ready_acyclic }

module _ (raw : Raw) (circuit : IsCircuit raw) (order : List ℕ) (canonical : IsCanonicalOrder raw order) where
  in_new_range : (l : ℕ) → IsInRange (renumbered raw order) (renumbered_literal raw order l)
  in_new_range l =
      literal_bound raw order l (length raw.inputs + length raw.latches + length raw.gates)
      (let b = variable_bound raw order (variable l) in omega (arith, length-order raw circuit.sound order canonical))

  in_new_range_all : (ls : List ℕ) → All (IsInRange (renumbered raw order)) (map (renumbered_literal raw order) ls)
  in_new_range_all ls = All-map (IsInRange (renumbered raw order)) (renumbered_literal raw order) ls
      (λ k d lt. in_new_range (get_or ls k d))

  ready_sides : (P : ℕ → Type 0) (lhs a b : ℕ) → P a → P b → P (ready_gate lhs a b).rhs0 × P (ready_gate lhs a b).rhs1
  ready_sides P lhs a b pa pb = go (nat_lt a b) refl
    where
      go : (s : Bool) → nat_lt a b ≡ s → P (ready_gate lhs a b).rhs0 × P (ready_gate lhs a b).rhs1
      go true e = rw e (pb, pa)
      go false e = rw e (pa, pb)

  new_uses : EachUse (IsInRange (renumbered raw order)) (renumbered raw order)
  new_uses =
      let P : ℕ → Type 0 = IsInRange (renumbered raw order) in
      record {
        nexts = All-map (λ x. P x.next) (renumbered_latch raw order) raw.latches
            (λ k d lt. in_new_range (get_or raw.latches k d).next);
        outputs = in_new_range_all raw.outputs;
        bad = in_new_range_all raw.bad;
        constraints = in_new_range_all raw.constraints;
        justice = All-map (All P) (map (renumbered_literal raw order)) raw.justice
            (λ k d lt. in_new_range_all (get_or raw.justice k d));
        fairness = in_new_range_all raw.fairness;
        sides = All-map (λ g. P g.rhs0 × P g.rhs1) (renumbered_gate raw order) (ordered_gates raw order) (λ k d lt.
            let g = get_or (ordered_gates raw order) k d in
            ready_sides P (renumbered_literal raw order g.lhs) (renumbered_literal raw order g.rhs0)
            (renumbered_literal raw order g.rhs1)
            (in_new_range g.rhs0) (in_new_range g.rhs1));
      }

  new_reset : (x : Latch) → IsReset x → IsReset (renumbered_latch raw order x)
  new_reset x h = elim h [
    | inl e ↦ inl (ap (renumbered_literal raw order) e ∙ false_literal raw circuit.sound order canonical)
    | inr o ↦ elim o [
      | inl e ↦ inr (inl (ap (renumbered_literal raw order) e ∙ true_literal raw circuit.sound order canonical))
      | inr e ↦ inr (inr (ap (renumbered_literal raw order) e))
    ]
  ]

  pub renumbered_circuit : IsCircuit (renumbered raw order)
  renumbered_circuit =
      ready_circuit (renumbered raw order) (renumbered_ready raw circuit.sound order canonical circuit.acyclic)
      (all_uses (IsInRange (renumbered raw order)) (renumbered raw order) new_uses)
      (renumbered_formed raw circuit.sound order canonical circuit.formed)
      (All-map IsReset (renumbered_latch raw order) raw.latches
      (λ k d lt. new_reset (get_or raw.latches k d) (circuit.sound.resets k d lt)))
