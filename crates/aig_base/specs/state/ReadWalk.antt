-- A walk over the variables that a property reads.
use Rattle.std.specs.Prelude.{◌≡◌, ◌⊎◌, ℕ, ◌+◌, Bool, true, false, List, [], length, All, Contains, Some, slice_get}
use Rattle.std.specs.Prelude.{slice_index_or}
use Rattle.aig_parts.specs.Literal.{variable}
use Rattle.aig_parts.specs.declared.gate.Gate.{Gate}
use Rattle.aig_parts.specs.declared.latch.Latch.{Latch}
use Rattle.aig_parts.specs.declared.raw.Raw.{Raw}
use Rattle.aig_base.specs.Part.{IsRead}

abbrev pub IsMet : List Bool → ℕ → Type 0
IsMet met v = slice_index_or met v false ≡ true

-- what the variable reads was met
pub record IsFollowed (raw : Raw) (met : List Bool) (v : ℕ) : Type 0 where
  pub sides : (q : ℕ) (g : Gate) → slice_get raw.gates q ≡ Some g → variable g.lhs ≡ v
      → IsMet met (variable g.rhs0) × IsMet met (variable g.rhs1)
  pub next : (p : ℕ) (x : Latch) → slice_get raw.latches p ≡ Some x → variable x.lit ≡ v → IsMet met (variable x.next)

-- each variable that was met is read for the property, and is pending, owed or followed
pub record IsReading (raw : Raw) (bad : ℕ) (pending owed : List ℕ) (met : List Bool) : Type 0 where
  pub size : length met ≡ raw.max_var + 1
  pub read : (v : ℕ) → IsMet met v → IsRead raw bad v
  pub pending_met : (v : ℕ) → Contains pending v → IsMet met v
  pub owed_met : (v : ℕ) → Contains owed v → IsMet met v
  pub each : (v : ℕ) → IsMet met v → Contains pending v ⊎ (Contains owed v ⊎ IsFollowed raw met v)

-- and the property and these constraints were met
pub record HasMet (raw : Raw) (bad : ℕ) (constraints pending : List ℕ) (met : List Bool) : Type 0 where
  pub reading : IsReading raw bad pending [] met
  pub property : IsMet met (variable bad)
  pub each : All (λ l. IsMet met (variable l)) constraints
