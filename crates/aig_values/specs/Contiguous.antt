-- Literals of variables that stand side by side.
-- Example: 4, 6, 8 from variable 2 on.
use Rattle.std.specs.Prelude.{◌≡◌, ℕ, ◌+◌, ◌*◌, List, Some, slice_get}

-- the even literals of the variables from this one on, each one more than the one before
pub record AreContiguous (first : ℕ) (literals : List ℕ) : Type 0 where
  pub each : (i l : ℕ) → slice_get literals i ≡ Some l → l ≡ 2 * (first + i)
