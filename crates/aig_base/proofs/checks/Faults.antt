-- From the tests of parts to their first fault, or to a circuit.
use Rattle.std.proofs.Common.{◌≡◌, ℕ, zero, suc, ◌+◌, ◌*◌, ◌%◌, ◌<◌, ◌≤◌, ◌⊎◌, inl, inr, List, [], ◌∷◌, ◌++◌, length}
use Rattle.std.proofs.Common.{map, get_or, Option, Some, None, option_map, refl, sym, ap, subst, ◌∙◌, arith, slice_get}
use Rattle.std.proofs.Common.{All, Contains}
use Rattle.std.specs.List.{Any, flat_map}
use Rattle.std.proofs.lemmas.List.Elements.{All-append, All-nil, All-cons, All-map, All-contains}
use Rattle.std.proofs.lemmas.Option.{slice_get-get_or, slice_get-map, same_Some}
use Rattle.std.proofs.lemmas.Bool.{cases_eq}
use Rattle.aig_parts.specs.declared.fault.Fault.{Fault}
use Rattle.aig_parts.specs.declared.fault.Fault.TheVariants as fault
use Rattle.aig_parts.specs.declared.gate.Gate.{Gate}
use Rattle.aig_parts.specs.declared.latch.Latch.{Latch}
use Rattle.aig_parts.specs.declared.raw.Raw.{Raw}
use Rattle.aig_base.specs.Circuit.{IsCircuit}
use Rattle.aig_base.specs.state.Definitions.{IsDefinitionTable}
use Rattle.aig_base.specs.state.Entries.{AreEntries}
use Rattle.aig_base.specs.FirstFault.{IsLeast, HasBadReset, IsUngrounded, FaultApplies, fault_order, IsFirstFault}
use Rattle.aig_parts.specs.Formed.{IsFormed}
use Rattle.aig_base.specs.Grounded.{Grounded, IsAcyclic}
use Rattle.aig_base.specs.state.LeastFaulty.{IsLeastAmong, IsKnownLiteral, IsGroundedGate, gate_variable}
use Rattle.aig_base.specs.state.LeastFaulty.{latch_variable}
use Rattle.aig_parts.specs.Literal.{variable}
use Rattle.aig_base.specs.state.Ranged.{AreInRange, AreDefinedOnce, AreDefinitions}
use Rattle.aig_base.specs.Sections.{definitions, uses, IsDefined}
use Rattle.aig_base.specs.Sound.{IsInRange, IsDefinition, IsRedefined, IsUndefined, IsReset, IsSound}
use Rattle.aig_base.proofs.lists.Counting.{all_defined}
use Rattle.aig_base.proofs.circuits.Entering.{contained}
use Rattle.aig_base.proofs.lists.Gets.{Contains-from_get, get_from_Contains, All-at}
use Rattle.aig_base.proofs.lists.Joined.{All-left, All-right, All-unmap}
use Rattle.aig_base.proofs.checks.Marking.{slice_get_unmap}

-- by a test with two answers, each element passes or some one fails
all_or_any : {X : Type 0} (P Q : X → Type 0) → ((x : X) → P x ⊎ Q x) → (xs : List X) → All P xs ⊎ Any Q xs
all_or_any P Q test [] = inl (All-nil P)
all_or_any P Q test (x ∷ xs) = elim (test x) [
  | inl p ↦ elim (all_or_any P Q test xs) [
    | inl all ↦ inl (All-cons P x xs p all)
    | inr (k, y, l, e, q) ↦ inr (suc k, y, omega arith, e, q)
  ]
  | inr q ↦ inr (0, x, omega arith, refl, q)
]

All-pieces : {X Y : Type 0} (P : X → Type 0) (f : Y → List X) (ys : List Y) → All (λ y. All P (f y)) ys
    → All P (flat_map f ys)
All-pieces P f [] h = All-nil P
All-pieces P f (y ∷ ys) h =
    All-append P (f y) (flat_map f ys) (h 0 y (omega arith)) (All-pieces P f ys (λ k d l. h (suc k) d (omega arith)))

All-unpieces : {X Y : Type 0} (P : X → Type 0) (f : Y → List X) (ys : List Y) → All P (flat_map f ys)
    → All (λ y. All P (f y)) ys
All-unpieces P f [] h = All-nil (λ y. All P (f y))
All-unpieces P f (y ∷ ys) h =
    All-cons (λ z. All P (f z)) y ys (All-left P (f y) (flat_map f ys) h) (All-unpieces P f ys (All-right P (f y)
    (flat_map f ys) h))

module _ (raw : Raw) where
  abbrev side_pair : Gate → List ℕ
  side_pair g = g.rhs0 ∷ g.rhs1 ∷ []

  -- what holds of each use, section by section
  module _ (P : ℕ → Type 0) where
    pub uses_joined : All (λ x. P x.next) raw.latches → All P raw.outputs → All P raw.bad → All P raw.constraints
        → All (λ p. All P p) raw.justice → All P raw.fairness → All (λ g. P g.rhs0 × P g.rhs1) raw.gates
        → All P (uses raw)
    uses_joined n o b c j f g =
        All-append P _ _ (All-append P _ _ (All-append P _ _ (All-append P _ _ (All-append P _ _ (All-append P _ _
        (All-map P (λ (x : Latch). x.next) raw.latches n) o) b) c) (All-pieces P (λ (p : List ℕ). p) raw.justice j)) f)
        (All-pieces P side_pair raw.gates (λ k d l.
        let x : Gate = get_or raw.gates k d in
        All-cons P x.rhs0 (x.rhs1 ∷ []) (g k d l).0 (All-cons P x.rhs1 [] (g k d l).1 (All-nil P))))

    definitions_joined : All P raw.inputs → All (λ x. P x.lit) raw.latches → All (λ g. P g.lhs) raw.gates
        → All P (definitions raw)
    definitions_joined i l g =
        All-append P _ _ (All-append P _ _ i (All-map P (λ (x : Latch). x.lit) raw.latches l)) (All-map P (λ
        (x : Gate). x.lhs) raw.gates g)

    definitions_parted : All P (definitions raw) → All P raw.inputs × All (λ x. P x.lit) raw.latches
        × All (λ g. P g.lhs) raw.gates
    definitions_parted h =
        let lits = map (λ (x : Latch). x.lit) raw.latches in
        let sides = map (λ (x : Gate). x.lhs) raw.gates in
        let s = All-left P (raw.inputs ++ lits) sides h in (
          All-left P raw.inputs lits s,
          All-unmap P (λ (x : Latch). x.lit) raw.latches (All-right P raw.inputs lits s),
          All-unmap P (λ (x : Gate). x.lhs) raw.gates (All-right P (raw.inputs ++ lits) sides h),
        )

    pub uses_parted : All P (uses raw) → All (λ x. P x.next) raw.latches × All P raw.outputs × All P raw.bad
        × All P raw.constraints
        × All (λ p. All P p) raw.justice × All P raw.fairness × All (λ g. P g.rhs0 × P g.rhs1) raw.gates
    uses_parted h =
        let a = map (λ (x : Latch). x.next) raw.latches in
        let e = flat_map (λ (p : List ℕ). p) raw.justice in
        let g = flat_map side_pair raw.gates in
        let h6 = All-left P (a ++ raw.outputs ++ raw.bad ++ raw.constraints ++ e ++ raw.fairness) g h in
        let h5 = All-left P (a ++ raw.outputs ++ raw.bad ++ raw.constraints ++ e) raw.fairness h6 in
        let h4 = All-left P (a ++ raw.outputs ++ raw.bad ++ raw.constraints) e h5 in
        let h3 = All-left P (a ++ raw.outputs ++ raw.bad) raw.constraints h4 in
        let h2 = All-left P (a ++ raw.outputs) raw.bad h3 in
        let h1 = All-left P a raw.outputs h2 in
        let pairs = All-unpieces P side_pair raw.gates (All-right P (a ++ raw.outputs ++ raw.bad ++ raw.constraints ++ e
        ++ raw.fairness) g h) in (
          All-unmap P (λ (x : Latch). x.next) raw.latches h1,
          All-right P a raw.outputs h2,
          All-right P (a ++ raw.outputs) raw.bad h3,
          All-right P (a ++ raw.outputs ++ raw.bad) raw.constraints h4,
          All-unpieces P (λ (p : List ℕ). p) raw.justice (All-right P (a ++ raw.outputs ++ raw.bad
              ++ raw.constraints) e h5),
          All-right P (a ++ raw.outputs ++ raw.bad ++ raw.constraints ++ e) raw.fairness h6,
          λ k d l. (pairs k d l 0 0 (omega arith), pairs k d l 1 0 (omega arith)),
        )

  -- range
  pub in_range_joined : AreInRange raw → All (IsInRange raw) (definitions raw ++ uses raw)
  in_range_joined h =
      All-append (IsInRange raw) (definitions raw) (uses raw)
      (definitions_joined (IsInRange raw) h.inputs (λ k d l. (h.latches k d l).0) (λ k d l. (h.gates k d l).0))
      (uses_joined (IsInRange raw) (λ k d l. (h.latches k d l).1) h.outputs h.bad h.constraints h.justice h.fairness
      (λ k d l. let g = h.gates k d l in (g.1, g.2)))

  pub in_range_parted : All (IsInRange raw) (definitions raw ++ uses raw) → AreInRange raw
  in_range_parted h =
      let d = definitions_parted (IsInRange raw) (All-left (IsInRange raw) (definitions raw) (uses raw) h) in
      let u = uses_parted (IsInRange raw) (All-right (IsInRange raw) (definitions raw) (uses raw) h) in
      record {
        inputs = d.0;
        latches = λ k e l. (d.1 k e l, u.0 k e l);
        outputs = u.1;
        bad = u.2;
        constraints = u.3;
        justice = u.4;
        fairness = u.5;
        gates = λ k e l. (d.2 k e l, (u.6 k e l).0, (u.6 k e l).1);
      }

  in_or_over : (l : ℕ) → IsInRange raw l ⊎ (2 * raw.max_var + 1 < l)
  in_or_over l = cases l (2 * raw.max_var + 1)
    where
      cases : (a b : ℕ) → (a ≤ b) ⊎ (b < a)
      cases a b = grind arith

  pub range_applies : (AreInRange raw → ⊥) → FaultApplies raw fault.Range
  range_applies out = elim (all_or_any (IsInRange raw) (λ l. 2 * raw.max_var + 1 < l) in_or_over (definitions raw
      ++ uses raw)) [
        | inl all ↦ absurd (out (in_range_parted all))
        | inr any ↦ any
      ]

  -- definitions
  pub are_definitions_joined : AreDefinitions raw → All IsDefinition (definitions raw)
  are_definitions_joined h = definitions_joined IsDefinition h.inputs h.latches h.gates

  definition_or_not : (l : ℕ) → IsDefinition l ⊎ (IsDefinition l → ⊥)
  definition_or_not l = elim (cases_eq (l % 2) 0) [
    | inl even ↦ elim (cases_eq l 0) [
      | inl e ↦ inr (λ h. absurd (omega (arith, h.1)))
      | inr ne ↦ inl
          (even, omega arith)
    ]
    | inr odd ↦ inr (λ h. odd h.0)
  ]

  pub definition_applies : (AreDefinitions raw → ⊥) → FaultApplies raw fault.Definition
  definition_applies out = elim (all_or_any IsDefinition (λ l. IsDefinition l → ⊥) definition_or_not
      (definitions raw)) [
        | inl all ↦ absurd (out (let d = definitions_parted IsDefinition all in record {
          inputs = d.0;
          latches = d.1;
          gates
              = d.2;
        }))
        | inr any ↦ any
      ]

  -- no fault of a lower number applies
  pub none_before : (n : ℕ) → n ≤ 9 → (4 < n → All (IsInRange raw) (definitions raw ++ uses raw)) → (5 < n
      → All IsDefinition (definitions raw))
      → (6 < n → (v : ℕ) → IsRedefined raw v → ⊥) → (7 < n → All (λ l. IsDefined raw (variable l)) (uses raw)) → (8 < n
      → All IsReset raw.latches)
      → (g : Fault) → fault_order g < n → FaultApplies raw g → ⊥
  none_before n m a b c d e fault.Range l (k, x, lt, is, p) = let h : get_or (definitions raw
      ++ uses raw) k x ≤ 2 * raw.max_var + 1 = a l k x lt in absurd (omega arith)
  none_before n m a b c d e fault.Definition l (k, x, lt, is, p) = p (subst IsDefinition is (b l k x lt))
  none_before n m a b c d e (fault.Redefined v) l h = c l v h.0
  none_before n m a b c d e (fault.Undefined v) l h =
      h.0.1 (All-contains (IsDefined raw) (map variable (uses raw)) v (All-map (IsDefined raw) variable (uses raw)
      (d l)) h.0.0)
  none_before n m a b c d e (fault.Reset v) l h = h.0.4 (All-at IsReset raw.latches h.0.0 h.0.1 (e l) h.0.2)
  none_before n m a b c d e (fault.Cycle v) l h = absurd (omega arith)
  none_before n m a b c d e (fault.Text at) l h = h
  none_before n m a b c d e fault.Limit l h = h
  none_before n m a b c d e fault.Counts l h = h
  none_before n m a b c d e fault.Memory l h = h
  none_before n m a b c d e fault.Io l h = h

  -- what the table knows is defined, and the other way round
  module _ (table : List ℕ) (again : Option ℕ) (h : AreEntries raw.max_var (map variable
      (definitions raw)) table again) where
    defined_from_known : (l : ℕ) → IsKnownLiteral table l → IsDefined raw (variable l)
    defined_from_known l (inl e) = Contains-from_get (0 ∷ map variable (definitions raw)) 0 (variable l) (ap Some
        (sym e))
    defined_from_known l (inr (n, at, some)) =
        let (k, is) = get_from_Contains (map variable (definitions raw)) (variable l)
        (contained (map variable (definitions raw)) (variable l) n some (h.numbers (variable l) n at)) in
        Contains-from_get (0 ∷ map variable (definitions raw)) (suc k) (variable l) is

    pub known_from_defined : (l : ℕ) → IsInRange raw l → IsDefined raw (variable l) → IsKnownLiteral table l
    known_from_defined l in' has =
        let k = get_from_Contains (0 ∷ map variable (definitions raw)) (variable l) has in
        of k.0 k.1
      where
        within : variable l < length table
        within = omega (arith, h.size)

        of_entry : (n : ℕ) → slice_get table (variable l) ≡ Some n → Contains (map variable (definitions raw)) (variable l)
            → IsKnownLiteral table l
        of_entry zero at c = absurd (h.numbers (variable l) 0 at c)
        of_entry (suc k) at c = inr (suc k, at, λ e. omega arith)

        of : (k : ℕ) → slice_get (0 ∷ map variable (definitions raw)) k ≡ Some (variable l) → IsKnownLiteral table l
        of zero e = inl (same_Some (variable l) 0 (sym e))
        of (suc k) e =
            of_entry (get_or table (variable l) 0) (slice_get-get_or table (variable l) 0 within)
            (Contains-from_get (map variable (definitions raw)) k (variable l) e)

    pub uses_defined : IsLeastAmong (IsKnownLiteral table) variable (uses raw) None → All (λ l. IsDefined raw (variable l))
        (uses raw)
    uses_defined all = λ k d l. defined_from_known _ (all k d l)

    pub least_is_undefined : (v : ℕ) → All (IsInRange raw) (uses raw) → IsLeastAmong (IsKnownLiteral table) variable (uses raw)
        (Some v) → IsLeast (IsUndefined raw) v
    least_is_undefined v range ((k, l, at, e, bad), less) = (
      (
        Contains-from_get (map variable (uses raw)) k v (slice_get-map variable (uses raw) k
            ∙ ap (option_map variable) at ∙ ap Some e),
        λ has. bad (known_from_defined l (All-at (IsInRange raw) (uses raw) k l range at) (subst (IsDefined raw)
            (sym e) has)),
      ),
      λ u lt (has, undefined).
          let (j, is) = get_from_Contains (map variable (uses raw)) u has in
          let (m, here, f) = slice_get_unmap variable (uses raw) j u is in
          undefined (subst (IsDefined raw) f (defined_from_known m
          (All-at (λ x. variable x < v → IsKnownLiteral table x) (uses raw) j m less here (subst (λ w. w < v) (sym f) lt)))),
    )

    pub table_from_entries : IsDefinitionTable raw table
    table_from_entries = record { size = h.size; numbers = h.numbers }

  pub least_is_reset : (v : ℕ) → IsLeastAmong IsReset latch_variable raw.latches (Some v) → IsLeast (HasBadReset raw) v
  least_is_reset v (bad, less) = (
    bad,
    λ u lt (p, x, at, e, wrong). wrong (All-at (λ y. latch_variable y < v
        → IsReset y) raw.latches p x less at (subst (λ w. w < v) (sym e) lt)),
  )

  pub least_is_cycle : (v : ℕ) → IsLeastAmong (IsGroundedGate raw) gate_variable raw.gates (Some v)
      → IsLeast (IsUngrounded raw) v
  least_is_cycle v ((q, g, at, e, bad), less) = (
    (
      Contains-from_get (map gate_variable raw.gates) q v (slice_get-map gate_variable raw.gates q
          ∙ ap (option_map gate_variable) at ∙ ap Some e),
      λ grounded. bad (subst (Grounded raw) (sym e) grounded),
    ),
    λ u lt (has, ungrounded).
        let (j, is) = get_from_Contains (map gate_variable raw.gates) u has in
        let (x, here, f) = slice_get_unmap gate_variable raw.gates j u is in
        ungrounded (subst (Grounded raw) f (All-at (λ y. gate_variable y < v
        → IsGroundedGate raw y) raw.gates j x less here (subst (λ w. w < v) (sym f) lt))),
  )

  pub acyclic_from_grounded : All (IsGroundedGate raw) raw.gates → IsAcyclic raw
  acyclic_from_grounded all = λ v is.
      All-contains (Grounded raw) (map gate_variable raw.gates) v (All-map
      (Grounded raw) gate_variable raw.gates all) is

  -- each fault is the first, where the tests before it have passed
  pub first_range : (AreInRange raw → ⊥) → IsFirstFault raw fault.Range
  first_range out = record {
    applies = range_applies out;
    first = none_before 4 (omega arith) (λ l. absurd (omega arith)) (λ l. absurd (omega arith)) (λ l. absurd
        (omega arith)) (λ l. absurd (omega arith)) (λ l. absurd (omega arith));
  }

  pub first_definition : AreInRange raw → (AreDefinitions raw → ⊥) → IsFirstFault raw fault.Definition
  first_definition r out = record {
    applies = definition_applies out;
    first = none_before 5 (omega arith) (λ l. in_range_joined r) (λ l. absurd (omega arith)) (λ l. absurd (omega arith))
        (λ l. absurd (omega arith)) (λ l. absurd (omega arith));
  }

  pub first_redefined : (v : ℕ) → AreInRange raw → AreDefinitions raw → IsLeast (IsRedefined raw) v
      → IsFirstFault raw (fault.Redefined v)
  first_redefined v r d least = record {
    applies = least;
    first = none_before 6 (omega arith) (λ l. in_range_joined r) (λ l. are_definitions_joined d) (λ l. absurd
        (omega arith)) (λ l. absurd (omega arith)) (λ l. absurd (omega arith));
  }

  -- the tests of the table, once each variable is defined once
  module _ (table : List ℕ) (r : AreInRange raw) (d : AreDefinitions raw) (h : AreEntries raw.max_var
      (map variable (definitions raw)) table None) where
    pub first_undefined : (v : ℕ) → IsLeastAmong (IsKnownLiteral table) variable (uses raw) (Some v)
        → IsFirstFault raw (fault.Undefined v)
    first_undefined v least = record {
      applies = least_is_undefined table None h v (All-right (IsInRange raw) (definitions raw) (uses raw)
          (in_range_joined r)) least;
      first = none_before 7 (omega arith) (λ l. in_range_joined r) (λ l. are_definitions_joined d) (λ l. h.twice)
          (λ l. absurd (omega arith)) (λ l. absurd (omega arith));
    }

    -- where as many variables are defined as there are, the table knows all that is used
    pub known_by_count : length raw.inputs + length raw.latches + length raw.gates ≡ raw.max_var
        → IsLeastAmong (IsKnownLiteral table) variable (uses raw) None
    known_by_count full = λ k e l.
        let range = All-left (IsInRange raw) (definitions raw) (uses raw) (in_range_joined r) in
        let used : ℕ = get_or (uses raw) k e in
        let low = All-right (IsInRange raw) (definitions raw) (uses raw) (in_range_joined r) k e l in
        known_from_defined table None h used low
        (all_defined raw (are_definitions_joined d) range h.twice full (variable used) (half used low))
      where
        half : (l : ℕ) → IsInRange raw l → variable l ≤ raw.max_var
        half l in' = omega arith

    pub once_from_table : IsLeastAmong (IsKnownLiteral table) variable (uses raw) None → AreDefinedOnce raw
    once_from_table known =
        record { definitions_are = are_definitions_joined d; once = h.twice; defined = uses_defined table None h known }

  -- the tests that are left, once what is used is defined
  module _ (r : AreInRange raw) (o : AreDefinedOnce raw) where
    pub first_reset : (v : ℕ) → IsLeastAmong IsReset latch_variable raw.latches (Some v)
        → IsFirstFault raw (fault.Reset v)
    first_reset v least = record {
      applies = least_is_reset v least;
      first = none_before 8 (omega arith) (λ l. in_range_joined r) (λ l. o.definitions_are) (λ l. o.once)
          (λ l. o.defined) (λ l. absurd (omega arith));
    }

    pub first_cycle : (v : ℕ) → IsLeastAmong IsReset latch_variable raw.latches None
        → IsLeastAmong (IsGroundedGate raw) gate_variable raw.gates (Some v) → IsFirstFault raw (fault.Cycle v)
    first_cycle v resets least = record {
      applies = least_is_cycle v least;
      first = none_before 9 (omega arith) (λ l. in_range_joined r) (λ l. o.definitions_are) (λ l. o.once)
          (λ l. o.defined) (λ l. resets);
    }

    pub sound_from_tests : IsLeastAmong IsReset latch_variable raw.latches None → IsSound raw
    sound_from_tests resets = record {
      in_range = in_range_joined r;
      definitions = o.definitions_are;
      once = o.once;
      defined = o.defined;
      resets = resets;
    }

    -- no fault is left
    pub circuit_from_tests : IsFormed raw → IsLeastAmong IsReset latch_variable raw.latches None
        → IsLeastAmong (IsGroundedGate raw) gate_variable raw.gates None → IsCircuit raw
    circuit_from_tests formed resets grounded = record {
      formed = formed;
      sound = sound_from_tests resets;
      acyclic = acyclic_from_grounded grounded;
    }
