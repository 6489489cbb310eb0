-- What a circuit keeps of its definitions: that they are in order, or a table of their numbers.
use Rattle.std.specs.Prelude.{◌≡◌, ◌⊎◌, ℕ, zero, suc, ◌+◌, ◌<◌, List, length, map, Contains, Some, slice_get}
use Rattle.std.specs.Vec.{vec_capacity}
use Rattle.aig_base.specs.declared.circuit.definition.Definition.{Definition}
use Rattle.aig_base.specs.declared.circuit.definition.Definition.TheVariants as definition
use Rattle.aig_base.specs.declared.circuit.definitions.Definitions.{Definitions}
use Rattle.aig_base.specs.declared.circuit.definitions.Definitions.TheVariants as kept
use Rattle.aig_parts.specs.declared.raw.Raw.{Raw}
use Rattle.aig_parts.specs.Literal.{variable}
use Rattle.aig_base.specs.Definition.{IsInOrder}
use Rattle.aig_base.specs.Sections.{definitions}

-- the definition has this number among all: the inputs come first, then the latches, then the gates, counted from 1
abbrev pub HasNumber : Raw → ℕ → Definition → Type 0
HasNumber raw n (definition.Input p) = (p < length raw.inputs) × (n ≡ 1 + p)
HasNumber raw n (definition.Latch p) = (p < length raw.latches) × (n ≡ 1 + length raw.inputs + p)
HasNumber raw n (definition.Gate q) = (q < length raw.gates) × (n ≡ 1 + length raw.inputs + length raw.latches + q)

-- no definition has this number
abbrev pub IsNoNumber : Raw → ℕ → Type 0
IsNoNumber raw n = (n ≡ 0) ⊎ (length raw.inputs + length raw.latches + length raw.gates < n)

-- where these variables are defined in this order, the number of a definition of this one, or 0 where it has none
abbrev pub IsNumberOf : List ℕ → ℕ → ℕ → Type 0
IsNumberOf defined v zero = Contains defined v → ⊥
IsNumberOf defined v (suc k) = slice_get defined k ≡ Some v

-- for each variable the number of its definition, or 0
pub record IsDefinitionTable (raw : Raw) (table : List ℕ) : Type 0 where
  pub size : length table ≡ raw.max_var + 1
  pub numbers : (v n : ℕ) → slice_get table v ≡ Some n → IsNumberOf (map variable (definitions raw)) v n

-- these are the definitions of these parts
abbrev pub AreDefinitionsOf : Raw → Definitions → Type 0
AreDefinitionsOf raw kept.InOrder = IsInOrder raw
AreDefinitionsOf raw (kept.Listed table) = IsDefinitionTable raw table.items

-- one more definition fits without memory
abbrev pub FitsOneDefinition : Definitions → Type 0
FitsOneDefinition kept.InOrder = Unit {0}
FitsOneDefinition (kept.Listed table) = length table.items < vec_capacity table
