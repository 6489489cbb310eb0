-- Levels that are tried, and tested in one pass.
use Rattle.std.specs.Prelude.{◌≡◌, ℕ, ◌+◌, ◌<◌, List, length, All, Some, slice_get, slice_index}
use Rattle.aig_parts.specs.declared.gate.Gate.{Gate}
use Rattle.aig_parts.specs.declared.raw.Raw.{Raw}
use Rattle.aig_base.specs.declared.check.tried_levels.Node.{Node}
use Rattle.aig_base.specs.state.Descent.{level_above}
use Rattle.aig_parts.specs.Literal.{variable}

-- the variables that are read are below a number
pub record ReadsBelow (n : ℕ) (a : Node) : Type 0 where
  pub first : a.first < n
  pub second : a.second < n

-- the gate has one more than the greater level of its right sides
abbrev pub IsStep : List ℕ → Gate → Type 0
IsStep levels g = slice_index levels (variable g.lhs) ≡ level_above levels g

-- sources have level 0, and each gate is a step above what it reads
pub record AreStepped (raw : Raw) (levels : List ℕ) : Type 0 where
  pub size : length levels ≡ raw.max_var + 1
  pub constant : slice_get levels 0 ≡ Some 0
  pub inputs : All (λ l. slice_get levels (variable l) ≡ Some 0) raw.inputs
  pub latches : All (λ x. slice_get levels (variable x.lit) ≡ Some 0) raw.latches
  pub gates : All (IsStep levels) raw.gates
