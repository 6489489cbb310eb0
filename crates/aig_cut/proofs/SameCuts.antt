-- A circuit that is cut by the marks of a text is cut as the text says.
use Rattle.std.proofs.Common.{◌≡◌, ℕ, zero, suc, ◌+◌, ◌*◌, ◌<◌, ◌≤◌, List, [], ◌∷◌, ◌++◌, length, map, All, get_or, refl, sym, ◌∙◌}
use Rattle.std.proofs.Common.{ap, ap₂, subst, arith, slice_get, Some, option_map}
use Rattle.std.proofs.lemmas.List.Elements.{All-head, All-tail}
use Rattle.std.proofs.lemmas.Option.{slice_get-map}
use Rattle.aig_parts.specs.declared.gate.Gate.{Gate}
use Rattle.aig_parts.specs.declared.latch.Latch.{Latch}
use Rattle.aig_parts.specs.declared.raw.Raw.{Raw}
use Rattle.aig_parts.specs.Literal.{variable}
use Rattle.aig_base.specs.Sound.{IsSound}
use Rattle.aig_base.proofs.lists.Gets.{All-by_get}
use Rattle.aig_base.proofs.lists.Positions.{Contains-from_slice_get}
use Rattle.aig_cut.specs.declared.line.Cut.{Cut}
use Rattle.aig_cut.specs.declared.marks.Marks.{Marks}
use Rattle.aig_cut.specs.Cuts.{Cuts, named_by}
use Rattle.aig_cut.specs.CutOf.{one_more, in_front, cut_latch, cut_latches, latch_inputs, cut_gate, cut_gates, gate_inputs}
use Rattle.aig_cut.specs.CutOf.{demanded, cut_constraints, cut_of}
use Rattle.aig_cut.specs.state.Marks.{AreMarks, FitMarks, HasMarks, marked}
use Rattle.aig_cut.proofs.Marking.{IsOfEntry, of_gate, of_latch}

module _ (a b : Cuts) where
  abbrev SameLatch : Latch → Type 0
  SameLatch x = (a.free x.lit ≡ b.free x.lit) × (a.starts x.lit ≡ b.starts x.lit)

  abbrev SameGate : Gate → Type 0
  SameGate g = a.free g.lhs ≡ b.free g.lhs

  same_latches : (xs : List Latch) → All SameLatch xs → (v : ℕ) → cut_latches a v xs ≡ cut_latches b v xs
  unfolding cut_latches
  same_latches [] all v = refl
  same_latches (x ∷ xs) all v =
      let now = All-head SameLatch x xs all in
      rw (now.0, now.1) (ap (λ ys. cut_latch b v x ∷ ys) (same_latches xs (All-tail SameLatch x xs all) (one_more (b.free x.lit) v)))

  same_latch_inputs : (xs : List Latch) → All SameLatch xs → (v : ℕ) → latch_inputs a v xs ≡ latch_inputs b v xs
  unfolding latch_inputs
  same_latch_inputs [] all v = refl
  same_latch_inputs (x ∷ xs) all v =
      let now = All-head SameLatch x xs all in
      rw now.0 (ap (λ ls. in_front (b.free x.lit) (2 * v) ls)
      (same_latch_inputs xs (All-tail SameLatch x xs all) (one_more (b.free x.lit) v)))

  same_gates : (gs : List Gate) → All SameGate gs → (v : ℕ) → cut_gates a v gs ≡ cut_gates b v gs
  unfolding cut_gates
  same_gates [] all v = refl
  same_gates (g ∷ gs) all v =
      let now = All-head SameGate g gs all in
      rw now (ap (λ hs. cut_gate (b.free g.lhs) v g ∷ hs) (same_gates gs (All-tail SameGate g gs all) (one_more (b.free g.lhs) v)))

  same_gate_inputs : (gs : List Gate) → All SameGate gs → (v : ℕ) → gate_inputs a v gs ≡ gate_inputs b v gs
  unfolding gate_inputs
  same_gate_inputs [] all v = refl
  same_gate_inputs (g ∷ gs) all v =
      let now = All-head SameGate g gs all in
      rw now (ap (λ ls. in_front (b.free g.lhs) (2 * v) ls)
      (same_gate_inputs gs (All-tail SameGate g gs all) (one_more (b.free g.lhs) v)))

  same_constraints : (cs : List ℕ) (p : ℕ) → ((k : ℕ) → k < length cs → a.constraints (p + k) ≡ b.constraints (p + k))
      → cut_constraints a p cs ≡ cut_constraints b p cs
  unfolding cut_constraints
  same_constraints [] p each = refl
  same_constraints (c ∷ cs) p each =
      let here : p + 0 ≡ p = omega arith in
      let now : a.constraints p ≡ b.constraints p = subst (λ n. a.constraints n ≡ b.constraints n) here (each 0 (omega arith)) in
      rw now (ap (λ ds. demanded (b.constraints p) c ∷ ds) (same_constraints cs (p + 1) (λ k lt.
      let next : p + suc k ≡ p + 1 + k = omega arith in
      subst (λ n. a.constraints n ≡ b.constraints n) next (each (suc k) (omega (arith, lt))))))

  pub same_cut : (raw : Raw) → All SameLatch raw.latches → All SameGate raw.gates
      → ((p : ℕ) → p < length raw.constraints → a.constraints p ≡ b.constraints p) → cut_of a raw ≡ cut_of b raw
  same_cut raw latches gates constraints =
      let v = raw.max_var + 1 in
      let ls = same_latch_inputs raw.latches latches v in
      let u : raw.max_var + 1 + length (latch_inputs a v raw.latches) ≡ raw.max_var + 1 + length (latch_inputs b v raw.latches) =
      ap (λ (ms : List ℕ). raw.max_var + 1 + length ms) ls in
      let gs : gate_inputs a (raw.max_var + 1 + length (latch_inputs a v raw.latches)) raw.gates
      ≡ gate_inputs b (raw.max_var + 1 + length (latch_inputs b v raw.latches)) raw.gates =
      ap (λ n. gate_inputs a n raw.gates) u
      ∙ same_gate_inputs raw.gates gates (raw.max_var + 1 + length (latch_inputs b v raw.latches)) in
      let hs : cut_gates a (v + length (latch_inputs a v raw.latches)) raw.gates
      ≡ cut_gates b (v + length (latch_inputs b v raw.latches)) raw.gates =
      ap (λ n. cut_gates a n raw.gates) u ∙ same_gates raw.gates gates (raw.max_var + 1 + length (latch_inputs b v raw.latches)) in
      let xs = same_latches raw.latches latches v in
      let cs = same_constraints raw.constraints 0 (λ k lt.
      let e : 0 + k ≡ k = omega arith in subst (λ n. a.constraints n ≡ b.constraints n) (sym e) (constraints k lt)) in
      λ i. record raw {
        max_var = raw.max_var + length (ls i ++ gs i);
        inputs = raw.inputs ++ (ls i ++ gs i);
        latches = xs i;
        constraints = cs i;
        gates = hs i;
      }

module _ (raw : Raw) (sound : IsSound raw) where
  latch_literal : (k : ℕ) (x : Latch) → slice_get raw.latches k ≡ Some x → IsOfEntry raw x.lit
  latch_literal k x at =
      of_latch raw sound x.lit (Contains-from_slice_get (map (λ (y : Latch). y.lit) raw.latches) k x.lit
      (slice_get-map (λ (y : Latch). y.lit) raw.latches k ∙ ap (option_map (λ (y : Latch). y.lit)) at))

  gate_literal : (k : ℕ) (g : Gate) → slice_get raw.gates k ≡ Some g → IsOfEntry raw g.lhs
  gate_literal k g at =
      of_gate raw sound g.lhs (Contains-from_slice_get (map (λ (h : Gate). h.lhs) raw.gates) k g.lhs
      (slice_get-map (λ (h : Gate). h.lhs) raw.gates k ∙ ap (option_map (λ (h : Gate). h.lhs)) at))

  -- there are marks for each latch and each gate
  pub latches_marked : (marks : Marks) → FitMarks raw marks → All (λ (x : Latch). HasMarks marks x.lit) raw.latches
  latches_marked marks fit = All-by_get (λ (x : Latch). HasMarks marks x.lit) raw.latches (λ k x at.
      let known = latch_literal k x at in
      (omega (arith, known.range, fit.free), omega (arith, known.range, fit.starts)))

  pub gates_marked : (marks : Marks) → FitMarks raw marks → All (λ (g : Gate). HasMarks marks g.lhs) raw.gates
  gates_marked marks fit = All-by_get (λ (g : Gate). HasMarks marks g.lhs) raw.gates (λ k g at.
      let known = gate_literal k g at in
      (omega (arith, known.range, fit.free), omega (arith, known.range, fit.starts)))

  module _ (cuts : List Cut) (marks : Marks) (h : AreMarks raw cuts marks) where
    free_same : (l : ℕ) → IsOfEntry raw l → (marked marks).free l ≡ (named_by cuts).free l
    free_same l known =
        let e : 2 * variable l ≡ l = (let even = known.even in omega (arith, even)) in
        subst (λ n. (marked marks).free n ≡ (named_by cuts).free n) e (h.free (variable l) known.range)

    starts_same : (l : ℕ) → IsOfEntry raw l → (marked marks).starts l ≡ (named_by cuts).starts l
    starts_same l known =
        let e : 2 * variable l ≡ l = (let even = known.even in omega (arith, even)) in
        subst (λ n. (marked marks).starts n ≡ (named_by cuts).starts n) e (h.starts (variable l) known.range)

    pub as_named : cut_of (marked marks) raw ≡ cut_of (named_by cuts) raw
    as_named =
        same_cut (marked marks) (named_by cuts) raw
        (All-by_get (SameLatch (marked marks) (named_by cuts)) raw.latches (λ k x at.
        (free_same x.lit (latch_literal k x at), starts_same x.lit (latch_literal k x at))))
        (All-by_get (SameGate (marked marks) (named_by cuts)) raw.gates (λ k g at. free_same g.lhs (gate_literal k g at)))
        h.constraints
