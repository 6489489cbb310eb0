-- The levels of the variables up to one, each found from those before it.
use Rattle.std.specs.Prelude.{◌≡◌, ℕ, ◌+◌, ◌<◌, ◌≤◌, List, Bool, true, false, length, max, slice_index, slice_index_or}
use Rattle.aig_parts.specs.declared.gate.Gate.{Gate}
use Rattle.aig_parts.specs.declared.raw.Raw.{Raw}
use Rattle.aig_parts.specs.Literal.{variable}
use Rattle.aig_base.specs.Grounded.{Level}

-- the variable is marked
abbrev pub IsMet : List Bool → ℕ → Type 0
IsMet met v = slice_index_or met v false ≡ true

-- one more than the greater level of the right sides
abbrev pub level_above : List ℕ → Gate → ℕ
level_above levels g = max (slice_index levels (variable g.rhs0)) (slice_index levels (variable g.rhs1)) + 1

-- each variable that the list has stands there with its level, if it has one, and no level is over its variable
pub record AreFirstLevels (raw : Raw) (levels : List ℕ) : Type 0 where
  pub each : (v n : ℕ) → v < length levels → Level raw v n → slice_index levels v ≡ n
  pub low : (v : ℕ) → v < length levels → slice_index levels v ≤ v
