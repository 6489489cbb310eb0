-- What is defined is a source or a gate.
use Rattle.std.proofs.Common.{◌≡◌, ◌⊎◌, inl, inr, ℕ, List, ◌*◌, ◌++◌, map, Some, slice_get, Contains, ◌∙◌, ap, subst}
use Rattle.std.proofs.Common.{arith, option_map}
use Rattle.std.proofs.lemmas.Option.{slice_get-map}
use Rattle.std.proofs.lemmas.List.Elements.{Contains-append_cases}
use Rattle.aig_parts.specs.declared.gate.Gate.{Gate}
use Rattle.aig_parts.specs.declared.latch.Latch.{Latch}
use Rattle.aig_parts.specs.declared.raw.Raw.{Raw}
use Rattle.aig_parts.specs.Literal.{variable}
use Rattle.aig_base.specs.Sections.{definitions, IsDefined, IsGate}
use Rattle.aig_base.specs.Grounded.{Grounded, IsSource, IsAcyclic}
use Rattle.aig_base.specs.Grounded as grounded
use Rattle.aig_base.specs.Sound.{IsDefinition}
use Rattle.aig_base.proofs.lists.Positions.{Contains-from_slice_get, Contains-cons, position_of, unmap}

-- what is defined is a source or a gate
pub defined_cases : (raw : Raw) (v : ℕ) → IsDefined raw v → IsSource raw v ⊎ IsGate raw v
defined_cases raw v h =
    elim (Contains-cons 0 (map variable (definitions raw)) v h) [
      | inl is ↦ inl (rw is grounded.constant)
      | inr k ↦ from_definition (unmap variable (definitions raw) v k)
    ]
  where
    from_latch : (l : ℕ) → Contains (map (λ x. x.lit) raw.latches) l → IsSource raw (variable l)
    from_latch l k =
        let (x, p, at, is) = unmap (λ (x : Latch). x.lit) raw.latches l k in
        subst (λ u. IsSource raw (variable u)) is (grounded.latch p x at)

    from_input : (l : ℕ) → Contains raw.inputs l → IsSource raw (variable l)
    from_input l k = let (p, at) = position_of raw.inputs l k in grounded.input p l at

    from_gate : (l : ℕ) → Contains (map (λ g. g.lhs) raw.gates) l → IsGate raw (variable l)
    from_gate l k =
        let (g, q, at, is) = unmap (λ (g : Gate). g.lhs) raw.gates l k in
        Contains-from_slice_get (map (λ g. variable g.lhs) raw.gates) q (variable l)
        (slice_get-map (λ g. variable g.lhs) raw.gates q ∙ ap (option_map (λ g. variable g.lhs)) at
        ∙ ap (λ u. Some (variable u)) is)

    latches : List ℕ
    latches = map (λ x. x.lit) raw.latches

    in_sections : (l : ℕ) → Contains (definitions raw) l → IsSource raw (variable l) ⊎ IsGate raw (variable l)
    in_sections l k = elim (Contains-append_cases (raw.inputs ++ latches) (map (λ g. g.lhs) raw.gates) l k) [
      | inl k ↦
          inl (elim (Contains-append_cases raw.inputs latches l k) [ inl k ↦ from_input l k | inr k ↦ from_latch l k ])
      | inr k ↦ inr (from_gate l k)
    ]

    from_definition : (l : ℕ) × (i : ℕ) × (slice_get (definitions raw) i ≡ Some l) × (variable l ≡ v)
        → IsSource raw v ⊎ IsGate raw v
    from_definition (l, i, at, is) =
        subst (λ u. IsSource raw u ⊎ IsGate raw u) is (in_sections l (Contains-from_slice_get (definitions raw) i l at))

-- in acyclic parts what is defined is grounded
pub Grounded-of_defined : (raw : Raw) → IsAcyclic raw → (v : ℕ) → IsDefined raw v → Grounded raw v
Grounded-of_defined raw acyclic v h = elim (defined_cases raw v h) [ inl s ↦ grounded.source v s | inr g ↦ acyclic v g ]

-- the literal of a definition is the even one of its variable
pub even : (l : ℕ) → IsDefinition l → 2 * variable l ≡ l
even l h = omega arith
