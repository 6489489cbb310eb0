-- A row of the pair before, as a pass for the pair after sees it.
use Rattle.std.proofs.Common.{◌≡◌, ◌⊎◌, inl, inr, ℕ, List, Some, slice_get, sym, ap, ◌∙◌}
use Rattle.std.proofs.lemmas.Option.{same_Some}
use Rattle.aig_parts.specs.declared.ternary.Tern.{Tern}
use Rattle.aig_parts.specs.declared.gate.Gate.{Gate}
use Rattle.aig_parts.specs.Literal.{variable}
use Rattle.aig_base.specs.Sound.{IsSound}
use Rattle.aig_base.specs.Value.{start_of}
use Rattle.aig_base.proofs.circuits.Circuits.{gate_defined, rhs0_defined, rhs1_defined}
use Rattle.aig_base.proofs.values.UniqueValue.{unique}
use Rattle.aig_bench.specs.state.Current.{HoldsInPair, IsCurrentRow}
use Rattle.aig_bench.specs.BenchState.{CircuitAndRows}
use Rattle.aig_bench.specs.Touched.{HasOther}
use Rattle.aig_bench.specs.state.Passing.{Differs, IsConsistent}
use Rattle.aig_bench.proofs.cells.Values.{gate_has_value}

module _ (p p' : CircuitAndRows) (t : ℕ) (old : List Tern) (sound : IsSound p.circuit) where
  -- another value than the old cell is another value than before
  pub differs_other : (v : ℕ) → HoldsInPair p t old v → Differs p' t old v → HasOther p p' t v
  differs_other v h d = record {
    before = h.cell;
    after = d.value;
    before_is = h.value_is;
    after_is = d.value_is;
    other = λ e. d.other (h.cell_is ∙ ap Some (sym e));
  }

  pub other_differs : (v : ℕ) → HoldsInPair p t old v → HasOther p p' t v → Differs p' t old v
  other_differs v h o = record {
    value = o.after;
    value_is = o.after_is;
    other = λ e. o.other (same_Some o.after h.cell (sym e ∙ h.cell_is)
        ∙ unique p.circuit (start_of p.circuit) p.rows sound h.value_is o.before_is);
  }

  -- a current row is consistent but at the gates that the edit replaces
  pub consistent : (forced : ℕ → Type 0) → IsCurrentRow p t old
      → ((q : ℕ) (g : Gate) → slice_get p'.circuit.gates q ≡ Some g
      → forced (variable g.lhs) ⊎ (slice_get p.circuit.gates q ≡ Some g))
      → IsConsistent p' forced old
  consistent forced now same q g at = elim (same q g at) [
    | inl f ↦ inl f
    | inr here ↦
        let h = now (variable g.lhs) (gate_defined p.circuit q g here) in
        let v = gate_has_value p t old q g sound here (now (variable g.rhs0) (rhs0_defined p.circuit sound q g here))
        (now (variable g.rhs1) (rhs1_defined p.circuit sound q g here)) in
        inr (h.cell_is ∙ ap Some (unique p.circuit (start_of p.circuit) p.rows sound h.value_is v))
  ]
