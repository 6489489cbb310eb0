-- The end of a sweep: nothing waits, the row is current, and what was evaluated is what is touched.
use Rattle.std.proofs.Common.{◌≡◌, inl, inr, ℕ, ◌+◌, ◌≤◌, Bool, List, [], length, Some, slice_get, Contains, sym, ap}
use Rattle.std.proofs.Common.{◌∙◌, subst, arith}
use Rattle.aig_parts.specs.declared.ternary.Tern.{Tern}
use Rattle.aig_parts.specs.declared.gate.Gate.{Gate}
use Rattle.aig_parts.specs.Literal.{variable}
use Rattle.aig_base.specs.state.Marks.{IsMarked}
use Rattle.aig_base.specs.Sections.{IsGate}
use Rattle.aig_base.specs.Value.{start_of}
use Rattle.aig_base.proofs.lists.Positions.{no_element}
use Rattle.aig_base.proofs.circuits.Circuits.{gate_defined}
use Rattle.aig_base.proofs.circuits.Gates.{gate_of}
use Rattle.aig_base.proofs.levels.OneLevel.{level_of}
use Rattle.aig_base.proofs.values.UniqueValue.{unique}
use Rattle.aig_bench.specs.declared.propagate.buckets.Buckets.{Buckets}
use Rattle.aig_bench.specs.declared.engine.driven_circuit.DrivenCircuit.{DrivenCircuit}
use Rattle.aig_bench.specs.declared.engine.fanouts.Fanouts.{Fanouts}
use Rattle.aig_bench.specs.state.Current.{HoldsInPair, IsCurrentRow}
use Rattle.aig_bench.specs.BenchState.{CircuitAndRows}
use Rattle.aig_bench.specs.state.Passing.{Differs, IsTouched, IsConsistent}
use Rattle.aig_bench.specs.state.DrivenCircuit.{pair_of}
use Rattle.aig_bench.specs.state.Sweep.{IsWork, Sweeping, Swept, Sweeps, PassStarts, PassEnds}
use Rattle.aig_bench.proofs.passes.PassLemmas.{marked_or_not, ended_current, ended_touched}

-- nothing was evaluated yet
begun : (p : CircuitAndRows) (t : ℕ) (forced : ℕ → Type 0) (old row : List Tern) (marks : List Bool)
    → PassStarts p t forced old row marks → Sweeping p t forced old 0 row marks [] []
begun p t forced old row marks h = record {
  done = h.done;
  size = h.size;
  passing = h.passing;
  low = λ v m d l. absurd (h.none v d);
  high = λ v m k l. omega arith;
  gates = λ v d. absurd (h.none v d);
  once = tt;
  each = λ v. (λ i. absurd (no_element v i), λ d. absurd (h.none v d));
  changed_once = tt;
  changed_each = λ v. (λ i. absurd (no_element v i), λ k. absurd (h.none v k.0));
}

module _ (driven : DrivenCircuit) (fanouts : Fanouts) (flags : List Bool) (cells : List (List Tern)) (b : Buckets) (t n e c : ℕ)
    (forced : List ℕ) (old row0 row : List Tern) (marks : List Bool)
    (work : IsWork driven fanouts flags cells b) (top : length b.head.items ≤ n)
    (fits : IsConsistent (pair_of driven) (Contains forced) old)
    (start : PassStarts (pair_of driven) t (Contains forced) old row0 marks)
    (h : Sweeps (pair_of driven) t 0 n row0 marks row b.marks.items e c) where
  abbrev p : CircuitAndRows
  p = pair_of driven

  swept : Swept p t (Contains forced) old n row b.marks.items [] [] e c
  swept = h.sweep forced old [] [] fits (begun p t (Contains forced) old row0 marks start)

  abbrev s : Sweeping p t (Contains forced) old n row b.marks.items swept.evaluated_now swept.changed_now
  s = swept.sweeping

  none : (v : ℕ) → IsMarked b.marks.items v → ⊥
  none v k =
      let g = work.gates v k in
      let (m, l) = level_of (work.driven_is.circuit.acyclic v g) in
      let below = work.heads v m g l in
      let over = s.high v m k l in
      omega arith

  current : IsCurrentRow p t row
  current = ended_current p t (Contains forced) old row b.marks.items s.done work.driven_is.circuit.sound s.passing
      work.driven_is.circuit.acyclic fits none

  done_touched : (q : ℕ) (g : Gate) → slice_get p.circuit.gates q ≡ Some g → IsTouched p t (Contains forced) old g
      → IsMarked s.done (variable g.lhs)
  done_touched = ended_touched p t (Contains forced) old row b.marks.items s.done work.driven_is.circuit.sound s.passing
      work.driven_is.circuit.acyclic fits none

  -- a gate that differs was evaluated
  done_differs : (v : ℕ) → IsGate p.circuit v → Differs p t old v → IsMarked s.done v
  done_differs v k d = elim (marked_or_not s.done v) [
    | inl m ↦ m
    | inr nd ↦
        let (g, q, at, is) = gate_of p.circuit v k in
        let row_is : slice_get row v ≡ slice_get old v =
        subst (λ (u : ℕ). slice_get row u ≡ slice_get old u) is
        (s.passing.others q g at (λ m. nd (subst (IsMarked s.done) is m))) in
        let h : HoldsInPair p t row v = subst (HoldsInPair p t row) is (current (variable g.lhs) (gate_defined p.circuit q g at)) in
        let w : h.cell ≡ d.value = unique p.circuit (start_of p.circuit) p.rows work.driven_is.circuit.sound h.value_is d.value_is in
        absurd (d.other (sym row_is ∙ h.cell_is ∙ ap Some w))
  ]

  pub ended : PassEnds p t (Contains forced) old row b.marks.items e c
  ended = record {
    empty = none;
    current = current;
    touched_gates = swept.evaluated_now;
    once = s.once;
    touched = λ q g at. (
      λ i. (s.passing.evaluated q g at ((s.each (variable g.lhs)).0 i)).1,
      λ k. (s.each (variable g.lhs)).1 (done_touched q g at k),
    );
    gates = λ v i. s.gates v ((s.each v).0 i);
    evaluated_is = (let k : length swept.evaluated_now ≡ 0 + e = swept.evaluated_more in omega arith);
    changed_gates = swept.changed_now;
    changed_once = s.changed_once;
    changes = λ v. (
      λ i. let k = (s.changed_each v).0 i in (s.gates v k.0, k.1),
      λ k. (s.changed_each v).1 (done_differs v k.0 k.1, k.1),
    );
    changed_is = (let k : length swept.changed_now ≡ 0 + c = swept.changed_more in omega arith);
  }
