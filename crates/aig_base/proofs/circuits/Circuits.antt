-- What is known of a circuit's variables.
use Rattle.std.proofs.Common.{◌≡◌, ℕ, zero, suc, ◌≤◌, List, [], ◌∷◌, ◌++◌, map, flat_map, Some, slice_get, Contains}
use Rattle.std.proofs.Common.{refl, sym, ap, ◌∙◌, subst, arith, option_map}
use Rattle.std.proofs.lemmas.Option.{slice_get-map}
use Rattle.std.proofs.lemmas.List.Elements.{All-contains, Contains-append_left as left, Contains-append_right as right}
use Rattle.aig_parts.specs.declared.gate.Gate.{Gate}
use Rattle.aig_parts.specs.declared.latch.Latch.{Latch}
use Rattle.aig_parts.specs.declared.raw.Raw.{Raw}
use Rattle.aig_parts.specs.Literal.{variable}
use Rattle.aig_base.specs.Sections.{definitions, uses, IsDefined, IsGate}
use Rattle.aig_base.specs.Sound.{IsSound, IsDefinition, IsInRange}
use Rattle.aig_base.specs.Grounded.{IsSource}
use Rattle.aig_base.proofs.circuits.Gates as gates
use Rattle.aig_base.proofs.circuits.Places.{input, latch, gate, IsDefinition-of_place}
use Rattle.aig_base.proofs.lists.Positions.{Contains-from_slice_get, position_of, unmap}

module _ (raw : Raw) where
  lits : List ℕ
  lits = map (λ x. x.lit) raw.latches

  pub input_stands : (i l : ℕ) → slice_get raw.inputs i ≡ Some l → Contains (definitions raw) l
  input_stands i l at = left _ _ _ (left _ _ _ (Contains-from_slice_get raw.inputs i l at))

  pub latch_stands : (i : ℕ) (x : Latch) → slice_get raw.latches i ≡ Some x → Contains (definitions raw) x.lit
  unfolding lits
  latch_stands i x at =
      left (raw.inputs ++ lits) _ _ (right raw.inputs lits _
      (Contains-from_slice_get lits i x.lit (slice_get-map (λ x. x.lit) raw.latches i
      ∙ ap (option_map (λ x. x.lit)) at)))

  pub gate_stands : (i : ℕ) (g : Gate) → slice_get raw.gates i ≡ Some g → Contains (definitions raw) g.lhs
  unfolding lits
  gate_stands i g at =
      right (raw.inputs ++ lits) _ _
      (Contains-from_slice_get _ i g.lhs (slice_get-map (λ g. g.lhs) raw.gates i ∙ ap (option_map (λ g. g.lhs)) at))

  -- the variable of a gate is one of a gate
  pub gate_is : (i : ℕ) (g : Gate) → slice_get raw.gates i ≡ Some g → IsGate raw (variable g.lhs)
  gate_is i g at =
      Contains-from_slice_get _ i (variable g.lhs)
      (slice_get-map (λ g. variable g.lhs) raw.gates i ∙ ap (option_map (λ g. variable g.lhs)) at)

module _ (raw : Raw) where
  nexts : List ℕ
  nexts = map (λ x. x.next) raw.latches

  pub sides : Gate → List ℕ
  sides g = g.rhs0 ∷ g.rhs1 ∷ []

  side_used : (gates : List Gate) (i : ℕ) (g : Gate) (l : ℕ) → slice_get gates i ≡ Some g → Contains (sides g) l
      → Contains (flat_map sides gates) l
  side_used [] i g l at k = absurd (cc)
  side_used (h ∷ gates) zero g l at k =
      let e : h ≡ g = cc in left _ _ _ (subst (λ (h : Gate). Contains (sides h) l) (sym e) k)
  side_used (h ∷ gates) (suc i) g l at k = right (sides h) _ _ (side_used gates i g l at k)

  pub gate_uses : (i : ℕ) (g : Gate) (l : ℕ) → slice_get raw.gates i ≡ Some g → Contains (sides g) l
      → Contains (uses raw) l
  unfolding sides nexts
  gate_uses i g l at k =
      right (nexts ++ raw.outputs ++ raw.bad ++ raw.constraints ++ flat_map (λ p. p) raw.justice ++ raw.fairness) _ _
      (side_used raw.gates i g l at k)

  pub rhs0_stands : (g : Gate) → Contains (sides g) g.rhs0
  unfolding sides
  rhs0_stands g = (0, omega arith, refl)

  pub rhs1_stands : (g : Gate) → Contains (sides g) g.rhs1
  unfolding sides
  rhs1_stands g = (1, omega arith, refl)

module _ (raw : Raw) (sound : IsSound raw) where
  pub input_definition : (i l : ℕ) → slice_get raw.inputs i ≡ Some l → IsDefinition l
  input_definition i l at = IsDefinition-of_place raw sound (input i) l tt at

  pub latch_definition : (i : ℕ) (x : Latch) → slice_get raw.latches i ≡ Some x → IsDefinition x.lit
  latch_definition i x at = IsDefinition-of_place raw sound (latch i) x.lit tt (x, at, refl)

  pub gate_definition : (i : ℕ) (g : Gate) → slice_get raw.gates i ≡ Some g → IsDefinition g.lhs
  gate_definition i g at = IsDefinition-of_place raw sound (gate i) g.lhs tt (g, at, refl)

  -- no gate is a source
  pub source-gate : (v : ℕ) → IsSource raw v → IsGate raw v → ⊥
  source-gate v s k =
      let (g, q, at, is) = unmap (λ (g : Gate). variable g.lhs) raw.gates v k in
      gates.source-gate raw sound v q g at s (sym is)

  definition_in_range : (l : ℕ) → Contains (definitions raw) l → variable l ≤ raw.max_var
  definition_in_range l k =
      let r : IsInRange raw l = All-contains (IsInRange raw) _ l sound.in_range (left _ _ _ k) in omega arith

  pub input_in_range : (i l : ℕ) → slice_get raw.inputs i ≡ Some l → variable l ≤ raw.max_var
  input_in_range i l at = definition_in_range l (input_stands raw i l at)

  pub latch_in_range : (i : ℕ) (x : Latch) → slice_get raw.latches i ≡ Some x → variable x.lit ≤ raw.max_var
  latch_in_range i x at = definition_in_range x.lit (latch_stands raw i x at)

  pub gate_in_range : (i : ℕ) (g : Gate) → slice_get raw.gates i ≡ Some g → variable g.lhs ≤ raw.max_var
  gate_in_range i g at = definition_in_range g.lhs (gate_stands raw i g at)

  pub use_in_range : (l : ℕ) → Contains (uses raw) l → variable l ≤ raw.max_var
  use_in_range l k =
      let r : IsInRange raw l = All-contains (IsInRange raw) _ l sound.in_range (right _ _ _ k) in omega arith

  pub use_defined : (l : ℕ) → Contains (uses raw) l → IsDefined raw (variable l)
  use_defined l k = All-contains (λ l. IsDefined raw (variable l)) (uses raw) l sound.defined k

  next_used : (i : ℕ) (x : Latch) → slice_get raw.latches i ≡ Some x → Contains (uses raw) x.next
  unfolding nexts
  next_used i x at =
      left _ _ _ (left _ _ _ (left _ _ _ (left _ _ _ (left _ _ _ (left (nexts raw) _ _
      (Contains-from_slice_get (nexts raw) i x.next (slice_get-map (λ x. x.next) raw.latches i
      ∙ ap (option_map (λ x. x.next)) at)))))))

  pub next_in_range : (i : ℕ) (x : Latch) → slice_get raw.latches i ≡ Some x → variable x.next ≤ raw.max_var
  next_in_range i x at = use_in_range x.next (next_used i x at)

  pub next_defined : (i : ℕ) (x : Latch) → slice_get raw.latches i ≡ Some x → IsDefined raw (variable x.next)
  next_defined i x at = use_defined x.next (next_used i x at)

  output_used : (i l : ℕ) → slice_get raw.outputs i ≡ Some l → Contains (uses raw) l
  unfolding nexts
  output_used i l at =
      left _ _ _ (left _ _ _ (left _ _ _ (left _ _ _ (left _ _ _ (right (nexts raw) _ _
      (Contains-from_slice_get raw.outputs i l at))))))

  pub output_in_range : (i l : ℕ) → slice_get raw.outputs i ≡ Some l → variable l ≤ raw.max_var
  output_in_range i l at = use_in_range l (output_used i l at)

  pub output_defined : (i l : ℕ) → slice_get raw.outputs i ≡ Some l → IsDefined raw (variable l)
  output_defined i l at = use_defined l (output_used i l at)

  pub rhs0_in_range : (i : ℕ) (g : Gate) → slice_get raw.gates i ≡ Some g → variable g.rhs0 ≤ raw.max_var
  rhs0_in_range i g at = use_in_range g.rhs0 (gate_uses raw i g g.rhs0 at (rhs0_stands raw g))

  pub rhs1_in_range : (i : ℕ) (g : Gate) → slice_get raw.gates i ≡ Some g → variable g.rhs1 ≤ raw.max_var
  rhs1_in_range i g at = use_in_range g.rhs1 (gate_uses raw i g g.rhs1 at (rhs1_stands raw g))

  pub rhs0_defined : (i : ℕ) (g : Gate) → slice_get raw.gates i ≡ Some g → IsDefined raw (variable g.rhs0)
  rhs0_defined i g at = use_defined g.rhs0 (gate_uses raw i g g.rhs0 at (rhs0_stands raw g))

  pub rhs1_defined : (i : ℕ) (g : Gate) → slice_get raw.gates i ≡ Some g → IsDefined raw (variable g.rhs1)
  rhs1_defined i g at = use_defined g.rhs1 (gate_uses raw i g g.rhs1 at (rhs1_stands raw g))

pub contains_variable : (xs : List ℕ) (l : ℕ) → Contains xs l → Contains (map variable xs) (variable l)
contains_variable xs l k =
    let (i, at) = position_of xs l k in
    Contains-from_slice_get (map variable xs) i (variable l)
    (slice_get-map variable xs i ∙ ap (option_map variable) at)

module _ (raw : Raw) where
  definition_defined : (l : ℕ) → Contains (definitions raw) l → IsDefined raw (variable l)
  definition_defined l k = let (i, lt, is) = contains_variable (definitions raw) l k in (suc i, omega arith, is)

  pub input_defined : (i l : ℕ) → slice_get raw.inputs i ≡ Some l → IsDefined raw (variable l)
  input_defined i l at = definition_defined l (input_stands raw i l at)

  pub latch_defined : (i : ℕ) (x : Latch) → slice_get raw.latches i ≡ Some x → IsDefined raw (variable x.lit)
  latch_defined i x at = definition_defined x.lit (latch_stands raw i x at)

  pub gate_defined : (i : ℕ) (g : Gate) → slice_get raw.gates i ≡ Some g → IsDefined raw (variable g.lhs)
  gate_defined i g at = definition_defined g.lhs (gate_stands raw i g at)
