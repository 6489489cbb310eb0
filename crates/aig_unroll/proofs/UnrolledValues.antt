-- The value of a frame literal in the unrolled circuit.
use Rattle.std.proofs.Common.{◌≡◌, inl, inr, ℕ, zero, suc, ◌+◌, ◌*◌, ◌<◌, ◌≤◌, Bool, true, false, List, [], ◌∷◌, ◌++◌}
use Rattle.std.proofs.Common.{length, map, take, flat_map, Some, slice_get, option_map, refl, ◌∙◌, ap, subst, arith}
use Rattle.std.specs.List.{range_with_len}
use Rattle.std.proofs.Math.Nat.{mul-le-mul_right}
use Rattle.std.proofs.lemmas.Bool.Decides.{nat_tests}
use Rattle.std.proofs.lemmas.List.{get_or_default}
use Rattle.std.proofs.lemmas.Option.{slice_get-map, slice_get_within}
use Rattle.aig_parts.specs.declared.gate.Gate.{Gate}
use Rattle.aig_parts.specs.declared.latch.Latch.{Latch}
use Rattle.aig_parts.specs.declared.raw.Raw.{Raw}
use Rattle.aig_parts.specs.declared.ternary.Tern.{Tern}
use Rattle.aig_base.specs.Circuit.{IsCircuit}
use Rattle.aig_parts.specs.Literal.{variable}
use Rattle.aig_base.specs.Order.{IsCanonicalOrder}
use Rattle.aig_base.specs.Renumbered.{ordered_gates}
use Rattle.aig_base.specs.Runs.{IsAllowed}
use Rattle.aig_base.specs.Sections.{IsDefined}
use Rattle.aig_base.specs.Sound.{IsReset}
use Rattle.aig_base.specs.Value as value
use Rattle.aig_base.specs.Value.{Value, Fits, reset_value}
use Rattle.aig_base.proofs.lists.Gets.{All-at}
use Rattle.aig_base.proofs.values.NegatedValues.{of_negation, of_ready}
use Rattle.aig_base.proofs.values.OneValue.{exists_value}
use Rattle.aig_base.proofs.circuits.Places.{gate}
use Rattle.aig_base.proofs.lists.Positions.{slice_get_left, slice_get_right}
use Rattle.aig_base.proofs.renumbered.RenumberedParts.{ordered_at}
use Rattle.aig_base.proofs.renumbered.Renumberings.{Contains-map}
use Rattle.aig_base.proofs.circuits.Roles.{one_place}
use Rattle.aig_base.proofs.values.UniqueValue.{unique}
use Rattle.aig_unroll.specs.FrameLiteral.{frame_literal, first_literal, is_uninitialised, uninitialised, input_count}
use Rattle.aig_unroll.specs.FrameLiteral.{chain_count, guard_count}
use Rattle.aig_unroll.specs.Unrolled.{unrolled, frame_gate, frame_gates, chain_gate, guard_gate}
use Rattle.aig_unroll.specs.UnrolledValues.{UnrolledValue, unrolled_row, free_values}
use Rattle.aig_unroll.proofs.FrameBounds.{count_before}
use Rattle.aig_unroll.proofs.FrameLiterals.{odd_literal, of_input, of_first, of_next, of_false, of_true}
use Rattle.aig_unroll.proofs.UnrolledCircuit.{unrolled_sound}
use Rattle.aig_unroll.proofs.UnrolledRow.{evens_at, length-flat, flat_at, free_at, frames_at}

module _ (raw : Raw) (circuit : IsCircuit raw) (order : List ℕ) (canonical : IsCanonicalOrder raw order) where
  -- where a gate stands in the canonical order
  ordered_place : (q : ℕ) (g : Gate) → slice_get raw.gates q ≡ Some g
      → (i : ℕ) × (slice_get (ordered_gates raw order) i ≡ Some g)
  ordered_place q g at =
      let (i, lt, is) = (canonical.gates (variable g.lhs)).1
      (Contains-map (λ (g : Gate). variable g.lhs) raw.gates q g at) in
      let (h, r, stands, same, here) = ordered_at raw circuit.sound order canonical i lt in
      let e : variable h.lhs ≡ variable g.lhs = same ∙ get_or_default order i 0 (variable g.lhs) lt ∙ is in
      let k : gate r ≡ gate q = one_place raw circuit.sound (gate r) (gate q) h.lhs g.lhs tt tt (h, stands, refl)
      (g, at, refl) e in
      let f : r ≡ q = cc in
      let there : slice_get raw.gates q ≡ Some h = subst (λ n. slice_get raw.gates n ≡ Some h) f stands in
      let j : h ≡ g = cc in
      (i, here ∙ ap Some j)

  -- a gate of a frame, in the unrolled circuit
  gate_at : (k t q : ℕ) (g : Gate) → t < k → slice_get raw.gates q ≡ Some g
      → (j : ℕ) × (slice_get (unrolled raw order k).gates j ≡ Some (frame_gate raw order k t g))
  gate_at k t q g lt at =
      let (i, here) = ordered_place q g at in
      let ordinary : List Gate = map (frame_gate raw order k t) (ordered_gates raw order) in
      let chain : List Gate = map (chain_gate raw order k t) (range_with_len 0 (chain_count raw)) in
      let guards : List Gate = map (guard_gate raw order k t) (range_with_len 0 (guard_count raw)) in
      frames_at (frame_gates raw order k) k t i (frame_gate raw order k t g) lt
      (slice_get_left (ordinary ++ chain) guards i (frame_gate raw order k t g)
      (slice_get_left ordinary chain i (frame_gate raw order k t g)
      (slice_get-map (frame_gate raw order k t) (ordered_gates raw order) i
      ∙ ap (option_map (frame_gate raw order k t)) here)))

  module _ (start : List Tern) (rows : List (List Tern)) (fits : Fits raw start rows) (allowed : IsAllowed raw start) where
    -- an input of the unrolled circuit
    of_cell : (i : ℕ) (w : Tern) → i < input_count raw (length rows) → slice_get (unrolled_row raw start rows) i ≡ Some w
        → UnrolledValue raw order start rows (2 * (i + 1)) w
    of_cell i w lt cell =
        let e : 2 * (1 + i) ≡ 2 * (i + 1) = omega arith in
        value.input 0 i (2 * (i + 1)) w (unrolled_row raw start rows)
        (evens_at (input_count raw (length rows)) i lt ∙ ap Some e) refl cell

    first_value : (p : ℕ) (x : Latch) (w : Tern) → slice_get raw.latches p ≡ Some x → slice_get start p ≡ Some w
        → UnrolledValue raw order start rows (first_literal raw (length rows) p (Some x)) w
    first_value p x w at is = go (is_uninitialised x) refl
      where
        constant : (n : ℕ) → n ≤ 1 → UnrolledValue raw order start rows n (reset_value n)
        constant zero le = value.constant_false 0
        constant (suc zero) le = value.constant_true 0
        constant (suc (suc n)) le = absurd (omega arith)

        go : (b : Bool) → is_uninitialised x ≡ b
            → UnrolledValue raw order start rows (first_literal raw (length rows) p (Some x)) w
        go true e =
            let c = count_before is_uninitialised raw.latches p x at e in
            let long = length-flat (length raw.inputs) rows fits.inputs in
            let cell = slice_get_right (flat_map (λ row. row) rows) (free_values raw.latches start)
            (uninitialised (take p raw.latches)) w (free_at raw.latches start p x w at is e) in
            let f : length (flat_map (λ (row : List Tern). row) rows) + uninitialised (take p raw.latches)
            ≡ length rows * length raw.inputs + uninitialised (take p raw.latches) = omega arith in
            rw e (of_cell (length rows * length raw.inputs + uninitialised (take p raw.latches)) w (omega arith)
            (subst (λ i. slice_get (unrolled_row raw start rows) i ≡ Some w) f cell))
        go false e =
            let own : x.reset ≡ x.lit → ⊥ = λ same. grind (arith, nat_tests) in
            let small : x.reset ≤ 1 = elim (All-at IsReset raw.latches p x circuit.sound.resets at) [
              | inl zero_is ↦ omega arith
              | inr o ↦ elim o [ inl one_is ↦ omega arith | inr same ↦ absurd (own same) ]
            ] in
            let same : w ≡ reset_value x.reset = elim (allowed p x w at is) [
              | inl same ↦ absurd (own same)
              | inr same ↦ same
            ] in
            rw (e, same) (constant x.reset small)

    -- each frame literal has the value of its literal
    pub frame_value : {t l : ℕ} {w : Tern} → t < length rows → Value raw start rows t l w
        → UnrolledValue raw order start rows (frame_literal raw order (length rows) t l) w
    frame_value lt (value.constant_false t) =
        rw (of_false raw circuit.sound order canonical (length rows) t) (value.constant_false 0)
    frame_value lt (value.constant_true t) =
        rw (of_true raw circuit.sound order canonical (length rows) t) (value.constant_true 0)
    frame_value lt (value.input t p l w row at is cell) =
        let below = slice_get_within raw.inputs p l at in
        let m = mul-le-mul_right {m = suc t} {n = length rows} (length raw.inputs) lt in
        rw (of_input raw circuit.sound order canonical (length rows) t p l at)
        (of_cell (t * length raw.inputs + p) w (omega arith)
        (slice_get_left (flat_map (λ row. row) rows) (free_values raw.latches start) (t * length raw.inputs + p) w
        (flat_at (length raw.inputs) rows fits.inputs t p row w is cell)))
    frame_value lt (value.latch_first p x w at is) =
        rw (of_first raw circuit.sound order canonical (length rows) p x at) (first_value p x w at is)
    frame_value lt (value.latch_next t p x w at v) =
        rw (of_next raw circuit.sound order canonical (length rows) t p x at) (frame_value (omega arith) v)
    frame_value lt (value.gate t q g a b at va vb) =
        let (j, here) = gate_at (length rows) t q g lt at in
        of_ready (unrolled raw order (length rows)) [] (unrolled_row raw start rows ∷ [])
        (unrolled_sound raw circuit order canonical (length rows)).definitions 0 j
        (frame_literal raw order (length rows) t g.lhs) (frame_literal raw order (length rows) t g.rhs0)
        (frame_literal raw order (length rows) t g.rhs1) a b here (frame_value lt va) (frame_value lt vb)
    frame_value lt (value.negated t l w over odd v) =
        rw (odd_literal raw order (length rows) t l over odd)
        (of_negation (unrolled raw order (length rows)) [] (unrolled_row raw start rows ∷ [])
        (unrolled_sound raw circuit order canonical (length rows)).definitions (frame_value lt v))

    -- and no other
    pub no_other_value : (t l : ℕ) (w : Tern) → t < length rows → IsDefined raw (variable l)
        → UnrolledValue raw order start rows (frame_literal raw order (length rows) t l) w → Value raw start rows t l w
    no_other_value t l w lt defined v =
        let (u, here) = exists_value raw start rows circuit.sound circuit.acyclic fits t lt l defined in
        let same : u ≡ w = unique (unrolled raw order (length rows)) [] (unrolled_row raw start rows ∷ [])
        (unrolled_sound raw circuit order canonical (length rows)) (frame_value lt here) v in
        subst (λ x. Value raw start rows t l x) same here
