-- What the definition of a variable says of it.
use Rattle.std.proofs.Common.{◌≢◌, inl, inr, ℕ, suc, map, Option, Some, None, is_some, IsTrue, IfSome, IfNone, ◌↔◌}
use Rattle.std.proofs.Common.{Contains, refl, subst, arith}
use Rattle.std.proofs.lemmas.Bool.{false≢true}
use Rattle.aig_parts.specs.declared.raw.Raw.{Raw}
use Rattle.aig_base.specs.declared.circuit.definition.Definition.{Definition}
use Rattle.aig_base.specs.declared.circuit.definition.Definition.TheVariants as definition
use Rattle.aig_base.specs.Definition.{Defines, IsFree}
use Rattle.aig_parts.specs.Literal.{variable}
use Rattle.aig_base.specs.Sections.{definitions, IsDefined}
use Rattle.aig_base.proofs.lists.Positions.{Contains-cons}
use Rattle.aig_base.proofs.circuits.Circuits.{input_stands, latch_stands, gate_stands, contains_variable}

module _ (raw : Raw) where
  defines_stands : (v : ℕ) (d : Definition) → Defines raw v d → Contains (map variable (definitions raw)) v
  defines_stands v (definition.Input p) (l, at, is) =
      subst (Contains (map variable (definitions raw))) is
      (contains_variable (definitions raw) l (input_stands raw p l at))
  defines_stands v (definition.Latch p) (x, at, is) =
      subst (Contains (map variable (definitions raw))) is
      (contains_variable (definitions raw) x.lit (latch_stands raw p x at))
  defines_stands v (definition.Gate q) (g, at, is) =
      subst (Contains (map variable (definitions raw))) is
      (contains_variable (definitions raw) g.lhs (gate_stands raw q g at))

  -- a variable other than 0 is defined where there is a definition
  pub defined_by : (v : ℕ) (d : Option Definition) → v ≢ 0 → IfSome d (Defines raw v) → IfNone d (IsFree raw v)
      → IsTrue (is_some d) ↔ IsDefined raw v
  defined_by v None positive some free = (
    λ h. absurd (false≢true h),
    λ k. elim (Contains-cons 0 (map variable (definitions raw)) v k)
        [ inl e ↦ absurd (positive e) | inr k ↦ absurd (free k) ],
  )
  defined_by v (Some d) positive some free = (
    λ h. let (i, lt, is) = defines_stands v d some in (suc i, omega arith, is),
    λ k. refl,
  )
