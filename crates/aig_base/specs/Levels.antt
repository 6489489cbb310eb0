-- Levels, a number a variable: one more than the greater of a gate's two fan-ins.
-- Example: in `examples/two_gates.aag` they are 0, 0, 0, 1, 2.
use Rattle.std.specs.Prelude.{◌≡◌, ℕ, ◌+◌, List, length, Some, slice_get}
use Rattle.aig_parts.specs.declared.raw.Raw.{Raw}
use Rattle.aig_base.specs.Grounded.{Level}

-- the list has the level of each variable that has one
pub record AreLevels (raw : Raw) (levels : List ℕ) : Type 0 where
  pub size : length levels ≡ raw.max_var + 1
  pub each : (v n : ℕ) → Level raw v n → slice_get levels v ≡ Some n
