-- The part of a circuit is a circuit.
use Rattle.std.proofs.Common.{◌≡◌, inl, inr, ℕ, ◌+◌, ◌≤◌, Bool, true, List, [], ◌++◌, length, map, Some}
use Rattle.std.proofs.Common.{slice_get, get_or, All, refl, ◌∙◌, ap, subst, arith}
use Rattle.std.proofs.lemmas.List.Elements.{All-append, All-cons, All-map, All-nil}
use Rattle.std.proofs.lemmas.Option.{slice_get-get_or}
use Rattle.aig_parts.specs.Formed.{IsFormed, IsSymbolOf, limit}
use Rattle.aig_parts.specs.Literal.{variable}
use Rattle.aig_parts.specs.declared.gate.Gate.{Gate}
use Rattle.aig_parts.specs.declared.latch.Latch.{Latch}
use Rattle.aig_parts.specs.declared.raw.Raw.{Raw}
use Rattle.aig_base.specs.Circuit.{IsCircuit}
use Rattle.aig_base.specs.Grounded as grounded
use Rattle.aig_base.specs.Grounded.{Grounded, IsSource}
use Rattle.aig_base.specs.Part.{TestsRead, gate_marks, input_marks, latch_marks, part, picked}
use Rattle.aig_base.specs.Sections.{IsDefined, definitions, uses}
use Rattle.aig_base.specs.Sound.{IsDefinition, IsInRange, IsReset, IsSound}
use Rattle.aig_base.proofs.circuits.Circuits.{gate_defined, input_defined, latch_defined}
use Rattle.aig_base.proofs.circuits.Defined.{Grounded-of_defined, defined_cases}
use Rattle.aig_base.proofs.circuits.EachUse.{all_uses, each_use}
use Rattle.aig_base.proofs.lists.Gets.{All-at}
use Rattle.aig_base.proofs.lists.Joined.{All-left, All-right, All-unmap}
use Rattle.aig_base.proofs.lists.Positions.{Contains-from_slice_get, unmap}
use Rattle.aig_cnf.proofs.PartReads.{marked_at, marked_is, reads_bad, reads_constraint, reads_first, reads_next, reads_second}
use Rattle.aig_cnf.proofs.Picked.{All-picked, fewer_picked, picked_at, picked_both}
use Rattle.aig_cnf.proofs.Sublists.{Sub, sub_append, sub_map, sub_picked, twice_more}

few : {A : Type 0} (bs : List Bool) (xs : List A) → length xs ≤ limit → length (picked bs xs) ≤ limit
few bs xs le = let less = fewer_picked bs xs (limit + 1) (omega (arith, le)) in omega (arith, less)

-- the parts of the part are formed, whatever the test
pub formed_part : (raw : Raw) (bad : ℕ) (test : ℕ → Bool) → IsFormed raw → IsFormed (part raw bad test)
formed_part raw bad test f = record {
  counts = record {
    max_var = f.counts.max_var;
    inputs = few (input_marks test raw) raw.inputs f.counts.inputs;
    latches = few (latch_marks test raw) raw.latches f.counts.latches;
    outputs = omega arith;
    bad = omega arith;
    constraints = f.counts.constraints;
    justice = omega arith;
    fairness = omega arith;
    gates = few (gate_marks test raw) raw.gates f.counts.gates;
    justice_literals = omega arith;
  };
  symbols = All-nil (IsSymbolOf (part raw bad test));
  names = λ i j d lt below. absurd (omega (arith, below));
}

module _ (raw : Raw) (bad : ℕ) (test : ℕ → Bool) (exact : TestsRead raw bad test) where
  abbrev small : Raw
  small = part raw bad test

  -- ---- definitions

  fewer : Sub ℕ (definitions small) (definitions raw)
  fewer =
      sub_append (small.inputs ++ map (λ (x : Latch). x.lit) small.latches) (raw.inputs ++ map (λ (x : Latch). x.lit) raw.latches)
      (map (λ (g : Gate). g.lhs) small.gates) (map (λ (g : Gate). g.lhs) raw.gates)
      (sub_append small.inputs raw.inputs (map (λ (x : Latch). x.lit) small.latches) (map (λ (x : Latch). x.lit) raw.latches)
      (sub_picked (input_marks test raw) raw.inputs)
      (sub_map (λ (x : Latch). x.lit) small.latches raw.latches (sub_picked (latch_marks test raw) raw.latches)))
      (sub_map (λ (g : Gate). g.lhs) small.gates raw.gates (sub_picked (gate_marks test raw) raw.gates))

  -- what holds of all that is defined holds of all that the part defines
  defines : (P : ℕ → Type 0) → All P (definitions raw) → All P (definitions small)
  defines P h =
      let lits : List ℕ = map (λ (x : Latch). x.lit) raw.latches in
      let lhss : List ℕ = map (λ (g : Gate). g.lhs) raw.gates in
      let sources = All-left P (raw.inputs ++ lits) lhss h in
      All-append P (small.inputs ++ map (λ (x : Latch). x.lit) small.latches) (map (λ (g : Gate). g.lhs) small.gates)
      (All-append P small.inputs (map (λ (x : Latch). x.lit) small.latches)
      (All-picked P (input_marks test raw) raw.inputs (All-left P raw.inputs lits sources))
      (All-map P (λ (x : Latch). x.lit) small.latches
      (All-picked (λ (x : Latch). P x.lit) (latch_marks test raw) raw.latches
      (All-unmap P (λ (x : Latch). x.lit) raw.latches (All-right P raw.inputs lits sources)))))
      (All-map P (λ (g : Gate). g.lhs) small.gates
      (All-picked (λ (g : Gate). P g.lhs) (gate_marks test raw) raw.gates
      (All-unmap P (λ (g : Gate). g.lhs) raw.gates (All-right P (raw.inputs ++ lits) lhss h))))

  source_in : (v : ℕ) → IsSource raw v → test v ≡ true → IsSource small v
  source_in v grounded.constant e = grounded.constant
  source_in v (grounded.input i l at) e =
      let (p, here, again) = picked_at (input_marks test raw) raw.inputs raw.inputs i l l
      (marked_at (λ (m : ℕ). test (variable m)) raw.inputs i l at e) at at in
      grounded.input p l here
  source_in v (grounded.latch i x at) e =
      let (p, here, again) = picked_at (latch_marks test raw) raw.latches raw.latches i x x
      (marked_at (λ (y : Latch). test (variable y.lit)) raw.latches i x at e) at at in
      grounded.latch p x here

  source_defined : (v : ℕ) → IsSource small v → IsDefined small v
  source_defined v grounded.constant = (0, omega arith, refl)
  source_defined v (grounded.input p l at) = input_defined small p l at
  source_defined v (grounded.latch p x at) = latch_defined small p x at

  gate_in : (q : ℕ) (g : Gate) → slice_get raw.gates q ≡ Some g → test (variable g.lhs) ≡ true
      → (p : ℕ) × (slice_get small.gates p ≡ Some g)
  gate_in q g at e =
      let (p, here, again) = picked_at (gate_marks test raw) raw.gates raw.gates q g g
      (marked_at (λ (h : Gate). test (variable h.lhs)) raw.gates q g at e) at at in
      (p, here)

  defined_in : (v : ℕ) → IsDefined raw v → test v ≡ true → IsDefined small v
  defined_in v h e = elim (defined_cases raw v h) [
    | inl s ↦ source_defined v (source_in v s e)
    | inr k ↦
        let (g, q, at, is) = unmap (λ (h : Gate). variable h.lhs) raw.gates v k in
        let (p, here) = gate_in q g at (ap test is ∙ e) in
        subst (λ u. IsDefined small u) is (gate_defined small p g here)
  ]

  -- ---- uses

  -- what holds of all that is used and read holds of all that the part uses
  used : (P : ℕ → Type 0) → All P (uses raw) → P bad → All P (uses small)
  used P h k =
      let u = each_use P raw h in
      all_uses P small (record {
        nexts = All-picked (λ (x : Latch). P x.next) (latch_marks test raw) raw.latches u.nexts;
        outputs = All-nil P;
        bad = All-cons P bad [] k (All-nil P);
        constraints = u.constraints;
        justice = All-nil (All P);
        fairness = All-nil P;
        sides = All-picked (λ (g : Gate). P g.rhs0 × P g.rhs1) (gate_marks test raw) raw.gates u.sides;
      })

  -- each item of the part stands in the circuit, and is read
  latch_there : (p : ℕ) (x : Latch) → slice_get small.latches p ≡ Some x
      → (i : ℕ) × (slice_get raw.latches i ≡ Some x) × (test (variable x.lit) ≡ true)
  latch_there p x at =
      let (i, m, there, again) = picked_both (latch_marks test raw) raw.latches raw.latches p x x at at in
      (i, there, marked_is (λ (y : Latch). test (variable y.lit)) raw.latches i x true there m)

  gate_there : (p : ℕ) (g : Gate) → slice_get small.gates p ≡ Some g
      → (q : ℕ) × (slice_get raw.gates q ≡ Some g) × (test (variable g.lhs) ≡ true)
  gate_there p g at =
      let (q, m, there, again) = picked_both (gate_marks test raw) raw.gates raw.gates p g g at at in
      (q, there, marked_is (λ (h : Gate). test (variable h.lhs)) raw.gates q g true there m)

  module _ (circuit : IsCircuit raw) (p : ℕ) (bad_is : slice_get raw.bad p ≡ Some bad) where
    sound : IsSound small
    sound =
        let in_range = circuit.sound.in_range in
        let range_uses = All-right (IsInRange raw) (definitions raw) (uses raw) in_range in
        let u = each_use (λ l. IsDefined raw (variable l)) raw circuit.sound.defined in
        record {
          in_range = All-append (IsInRange raw) (definitions small) (uses small)
              (defines (IsInRange raw) (All-left (IsInRange raw) (definitions raw) (uses raw) in_range))
              (used (IsInRange raw) range_uses (All-at (IsInRange raw) raw.bad p bad (each_use (IsInRange raw) raw range_uses).bad bad_is));
          definitions = defines IsDefinition circuit.sound.definitions;
          once = λ v twice. circuit.sound.once v
              (twice_more (map variable (definitions small)) (map variable (definitions raw)) v
              (sub_map variable (definitions small) (definitions raw) fewer) twice);
          defined = all_uses (λ l. IsDefined small (variable l)) small (record {
            nexts = by_places (λ (x : Latch). IsDefined small (variable x.next)) small.latches (λ j x at.
                let (i, there, e) = latch_there j x at in
                defined_in (variable x.next) (All-at (λ (y : Latch). IsDefined raw (variable y.next)) raw.latches i x u.nexts there)
                (reads_next raw bad test exact i x there e));
            outputs = All-nil (λ l. IsDefined small (variable l));
            bad = All-cons (λ l. IsDefined small (variable l)) bad []
                (defined_in (variable bad) (All-at (λ l. IsDefined raw (variable l)) raw.bad p bad u.bad bad_is)
                (reads_bad raw bad test exact)) (All-nil (λ l. IsDefined small (variable l)));
            constraints = by_places (λ l. IsDefined small (variable l)) raw.constraints (λ j l at.
                defined_in (variable l) (All-at (λ l. IsDefined raw (variable l)) raw.constraints j l u.constraints at)
                (reads_constraint raw bad test exact l (Contains-from_slice_get raw.constraints j l at)));
            justice = All-nil (All (λ l. IsDefined small (variable l)));
            fairness = All-nil (λ l. IsDefined small (variable l));
            sides = by_places (λ (g : Gate). IsDefined small (variable g.rhs0) × IsDefined small (variable g.rhs1)) small.gates (λ j g at.
                let (q, there, e) = gate_there j g at in
                let both = All-at (λ (h : Gate). IsDefined raw (variable h.rhs0) × IsDefined raw (variable h.rhs1)) raw.gates q g u.sides there in (
                  defined_in (variable g.rhs0) both.0 (reads_first raw bad test exact q g there e),
                  defined_in (variable g.rhs1) both.1 (reads_second raw bad test exact q g there e),
                ));
          });
          resets = All-picked IsReset (latch_marks test raw) raw.latches circuit.sound.resets;
        }
      where
        by_places : {A : Type 0} (P : A → Type 0) (xs : List A) → ((j : ℕ) (x : A) → slice_get xs j ≡ Some x → P x) → All P xs
        by_places P xs each j d lt = each j (get_or xs j d) (slice_get-get_or xs j d lt)

    stays_grounded : (v : ℕ) → Grounded raw v → test v ≡ true → Grounded small v
    stays_grounded v (grounded.source _ s) e = grounded.source v (source_in v s e)
    stays_grounded v (grounded.gate q g at a b) e =
        let (j, here) = gate_in q g at e in
        grounded.gate j g here (stays_grounded _ a (reads_first raw bad test exact q g at e))
        (stays_grounded _ b (reads_second raw bad test exact q g at e))

    pub part_circuit : IsCircuit small
    part_circuit = record {
      formed = formed_part raw bad test circuit.formed;
      sound = sound;
      acyclic = λ v k.
          let (g, j, at, is) = unmap (λ (h : Gate). variable h.lhs) small.gates v k in
          let (q, there, e) = gate_there j g at in
          subst (λ u. Grounded small u) is
          (stays_grounded (variable g.lhs) (Grounded-of_defined raw circuit.acyclic (variable g.lhs) (gate_defined raw q g there)) e);
    }
