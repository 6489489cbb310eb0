-- Where each gate has a greater rank than what it reads, and all that is used is defined, all gates are grounded.
use Rattle.std.proofs.Common.{◌≡◌, inl, inr, ℕ, zero, suc, ◌<◌, Some, slice_get, get_or, Contains, All, ap, subst}
use Rattle.std.proofs.Common.{arith}
use Rattle.std.proofs.lemmas.Option.{slice_get-get_or}
use Rattle.std.proofs.lemmas.List.Elements.{All-contains}
use Rattle.aig_parts.specs.declared.gate.Gate.{Gate}
use Rattle.aig_parts.specs.declared.raw.Raw.{Raw}
use Rattle.aig_base.specs.Grounded as grounded
use Rattle.aig_base.specs.Grounded.{Grounded}
use Rattle.aig_base.specs.state.LeastFaulty.{IsGroundedGate}
use Rattle.aig_parts.specs.Literal.{variable}
use Rattle.aig_base.specs.Sections.{uses, IsDefined}
use Rattle.aig_base.proofs.circuits.Circuits.{sides, gate_uses, rhs0_stands, rhs1_stands, gate_defined}
use Rattle.aig_base.proofs.circuits.Defined.{defined_cases}
use Rattle.aig_base.proofs.circuits.Gates.{gate_of}
use Rattle.aig_base.proofs.lists.Positions.{Contains-from_slice_get}

module _ (raw : Raw) (defined : All (λ l. IsDefined raw (variable l)) (uses raw)) (rank : ℕ → ℕ)
    (over : All (λ g. (rank (variable g.rhs0) < rank (variable g.lhs)) × (rank (variable g.rhs1) < rank
    (variable g.lhs))) raw.gates) where
  IsOver : Gate → Type 0
  IsOver g = (rank (variable g.rhs0) < rank (variable g.lhs)) × (rank (variable g.rhs1) < rank (variable g.lhs))

  side_defined : (q : ℕ) (g : Gate) (l : ℕ) → slice_get raw.gates q ≡ Some g → Contains (sides raw g) l
      → IsDefined raw (variable l)
  side_defined q g l at k = All-contains (λ l. IsDefined raw (variable l)) (uses raw) l defined
      (gate_uses raw q g l at k)

  is_over : (q : ℕ) (g : Gate) → slice_get raw.gates q ≡ Some g
      → (rank (variable g.rhs0) < rank (variable g.lhs)) × (rank (variable g.rhs1) < rank (variable g.lhs))
  unfolding IsOver
  is_over q g at = All-contains IsOver raw.gates g over (Contains-from_slice_get raw.gates q g at)

  grounded_below : (n v : ℕ) → rank v < n → IsDefined raw v → Grounded raw v
  grounded_below zero v lt d = absurd (omega arith)
  grounded_below (suc n) v lt d = elim (defined_cases raw v d) [
    | inl s ↦ grounded.source v s
    | inr k ↦
        let (g, q, at, is) = gate_of raw v k in
        let (less0, less1) = is_over q g at in
        let e : rank (variable g.lhs) ≡ rank v = ap rank is in
        subst (Grounded raw) is (grounded.gate q g at
        (grounded_below n (variable g.rhs0) (omega (arith, less0, e, lt)) (side_defined q g g.rhs0 at
        (rhs0_stands raw g)))
        (grounded_below n (variable g.rhs1) (omega (arith, less1, e, lt)) (side_defined q g g.rhs1 at
        (rhs1_stands raw g))))
  ]

  pub all_grounded : All (IsGroundedGate raw) raw.gates
  all_grounded = λ k d lt. let g : Gate = get_or raw.gates k d in
      grounded_below (suc (rank (variable g.lhs))) (variable g.lhs) (omega arith)
      (gate_defined raw k g (slice_get-get_or raw.gates k d lt))
