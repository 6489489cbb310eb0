-- The values of the renumbered circuit.
use Rattle.std.proofs.Common.{◌≡◌, ℕ, ◌-◌, ◌/◌, ◌%◌, ◌<◌, List, All, Some, slice_get, option_map, refl, ◌∙◌, ap, subst}
use Rattle.std.proofs.Common.{arith}
use Rattle.std.proofs.lemmas.Option.{slice_get-map}
use Rattle.std.proofs.lemmas.List.{get_or_default}
use Rattle.aig_parts.specs.declared.gate.Gate.{Gate}
use Rattle.aig_parts.specs.declared.latch.Latch.{Latch}
use Rattle.aig_parts.specs.declared.raw.Raw.{Raw}
use Rattle.aig_parts.specs.declared.ternary.Tern.{Tern}
use Rattle.aig_parts.specs.Literal.{variable, negation, IsNegated}
use Rattle.aig_base.specs.Order.{IsCanonicalOrder}
use Rattle.aig_base.specs.Renumbered.{ordered_gates, renumbered, renumbered_gate, renumbered_latch, renumbered_literal}
use Rattle.aig_base.specs.Sections.{definitions}
use Rattle.aig_base.specs.Sound.{IsSound, IsDefinition}
use Rattle.aig_base.specs.Value as value
use Rattle.aig_base.specs.Value.{Value}
use Rattle.aig_base.proofs.lists.Evens.{evens_are, joined}
use Rattle.aig_base.proofs.values.NegatedValues.{of_negation, of_ready}
use Rattle.aig_base.proofs.circuits.Places.{gate}
use Rattle.aig_base.proofs.renumbered.RenumberedParts.{ordered_at}
use Rattle.aig_base.proofs.renumbered.RenumberedReady.{sections, constant_variable}
use Rattle.aig_base.proofs.renumbered.Renumberings.{Contains-map}
use Rattle.aig_base.proofs.circuits.Roles.{one_place}

-- the literal of an odd one
odd_literal : (raw : Raw) (order : List ℕ) (l : ℕ) → 1 < l → IsNegated l
    → renumbered_literal raw order l ≡ negation (renumbered_literal raw order (l - 1))
unfolding renumbered_literal
odd_literal raw order l over odd =
    let e : (l - 1) % 2 ≡ 0 = omega arith in let f : (l - 1) / 2 ≡ l / 2 = omega arith in rw (odd, e, f) refl

module _ (raw : Raw) (sound : IsSound raw) (order : List ℕ) (canonical : IsCanonicalOrder raw order) where
  pub false_literal : renumbered_literal raw order 0 ≡ 0
  unfolding renumbered_literal
  false_literal = let e = constant_variable raw sound order canonical in rw e refl

  pub true_literal : renumbered_literal raw order 1 ≡ 1
  unfolding renumbered_literal
  true_literal = let e = constant_variable raw sound order canonical in rw e refl

  pub renumbered_definitions : All IsDefinition (definitions (renumbered raw order))
  renumbered_definitions =
      evens_are (definitions (renumbered raw order)) (renumbered raw order).max_var
      (joined (renumbered raw order) (sections raw sound order canonical))

  -- where a gate stands in the renumbered circuit
  pub renumbered_gate_at : (q : ℕ) (g : Gate) → slice_get raw.gates q ≡ Some g
      → (i : ℕ) × (slice_get (renumbered raw order).gates i ≡ Some (renumbered_gate raw order g))
  renumbered_gate_at q g at =
      let (i, lt, is) = (canonical.gates (variable g.lhs)).1
      (Contains-map (λ (g : Gate). variable g.lhs) raw.gates q g at) in
      let (h, r, stands, same, here) = ordered_at raw sound order canonical i lt in
      let e : variable h.lhs ≡ variable g.lhs = same ∙ get_or_default order i 0 (variable g.lhs) lt ∙ is in
      let k : gate r ≡ gate q = one_place raw sound (gate r) (gate q) h.lhs g.lhs tt tt (h, stands, refl)
      (g, at, refl) e in
      let f : r ≡ q = cc in
      let there : slice_get raw.gates q ≡ Some h = subst (λ n. slice_get raw.gates n ≡ Some h) f stands in
      let j : h ≡ g = cc in (
        i,
        slice_get-map (renumbered_gate raw order) (ordered_gates raw order) i
            ∙ ap (option_map (renumbered_gate raw order)) here
            ∙ ap (λ (h : Gate). Some (renumbered_gate raw order h)) j,
      )

  module _ (start : List Tern) (rows : List (List Tern)) where
    latch_here : (p : ℕ) (x : Latch) → slice_get raw.latches p ≡ Some x
        → slice_get (renumbered raw order).latches p ≡ Some (renumbered_latch raw order x)
    latch_here p x at = slice_get-map (renumbered_latch raw order) raw.latches p
        ∙ ap (option_map (renumbered_latch raw order)) at

    -- each literal's counterpart has its value
    pub renumbered_value : {t l : ℕ} {w : Tern} → Value raw start rows t l w
        → Value (renumbered raw order) start rows t (renumbered_literal raw order l) w
    renumbered_value (value.constant_false t) = rw false_literal (value.constant_false t)
    renumbered_value (value.constant_true t) = rw true_literal (value.constant_true t)
    renumbered_value (value.input t p l w row at is cell) =
        value.input t p (renumbered_literal raw order l) w row
        (slice_get-map (renumbered_literal raw order) raw.inputs p
        ∙ ap (option_map (renumbered_literal raw order)) at) is cell
    renumbered_value (value.latch_first p x w at is) =
        value.latch_first p (renumbered_latch raw order x) w (latch_here p x at) is
    renumbered_value (value.latch_next t p x w at v) =
        value.latch_next t p (renumbered_latch raw order x) w (latch_here p x at) (renumbered_value v)
    renumbered_value (value.gate t q g a b at va vb) =
        let (i, here) = renumbered_gate_at q g at in
        of_ready (renumbered raw order) start rows renumbered_definitions t i (renumbered_literal raw order g.lhs)
        (renumbered_literal raw order g.rhs0)
        (renumbered_literal raw order g.rhs1) a b here (renumbered_value va) (renumbered_value vb)
    renumbered_value (value.negated t l w over odd v) =
        rw (odd_literal raw order l over odd)
        (of_negation (renumbered raw order) start rows renumbered_definitions (renumbered_value v))
