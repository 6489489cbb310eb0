-- The first tests of parts.
use Rattle.std.specs.Prelude.{ℕ, All}
use Rattle.aig_parts.specs.declared.raw.Raw.{Raw}
use Rattle.aig_parts.specs.Formed.{CountsFit}
use Rattle.aig_parts.specs.Literal.{variable}
use Rattle.aig_base.specs.Sections.{definitions, uses, IsDefined}
use Rattle.aig_base.specs.Sound.{IsInRange, IsDefinition, IsRedefined}

-- each literal outside the gates, but a reset, is in range
pub record AreSectionsInRange (raw : Raw) : Type 0 where
  pub inputs : All (λ l. IsInRange raw l) raw.inputs
  pub latches : All (λ x. IsInRange raw x.lit × IsInRange raw x.next) raw.latches
  pub outputs : All (λ l. IsInRange raw l) raw.outputs
  pub bad : All (λ l. IsInRange raw l) raw.bad
  pub constraints : All (λ l. IsInRange raw l) raw.constraints
  pub justice : All (λ p. All (λ l. IsInRange raw l) p) raw.justice
  pub fairness : All (λ l. IsInRange raw l) raw.fairness

-- each literal but a reset is in range
pub record AreInRange (raw : Raw) : Type 0 where
  pub inputs : All (λ l. IsInRange raw l) raw.inputs
  pub latches : All (λ x. IsInRange raw x.lit × IsInRange raw x.next) raw.latches
  pub outputs : All (λ l. IsInRange raw l) raw.outputs
  pub bad : All (λ l. IsInRange raw l) raw.bad
  pub constraints : All (λ l. IsInRange raw l) raw.constraints
  pub justice : All (λ p. All (λ l. IsInRange raw l) p) raw.justice
  pub fairness : All (λ l. IsInRange raw l) raw.fairness
  pub gates : All (λ g. IsInRange raw g.lhs × IsInRange raw g.rhs0 × IsInRange raw g.rhs1) raw.gates

-- the sections are within the limit, and each literal but a reset is in range
pub record IsRanged (raw : Raw) : Type 0 where
  pub counts : CountsFit raw
  pub range : AreInRange raw

-- each literal that an input, a latch or a gate defines is even and not 0
pub record AreDefinitions (raw : Raw) : Type 0 where
  pub inputs : All (λ l. IsDefinition l) raw.inputs
  pub latches : All (λ x. IsDefinition x.lit) raw.latches
  pub gates : All (λ g. IsDefinition g.lhs) raw.gates

-- what is defined is even and not 0, no variable is defined twice, and each that is used is defined
pub record AreDefinedOnce (raw : Raw) : Type 0 where
  pub definitions_are : All IsDefinition (definitions raw)
  pub once : (v : ℕ) → IsRedefined raw v → ⊥
  pub defined : All (λ l. IsDefined raw (variable l)) (uses raw)
