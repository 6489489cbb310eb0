-- Variables of a large fan-out: many gates read them (our own choice).
-- Example: no variable of `examples/two_gates.aag`.
use Rattle.std.specs.Prelude.{ℕ, ◌≤◌, List, length, Contains}
use Rattle.aig_parts.specs.declared.raw.Raw.{Raw}
use Rattle.aig_base.specs.Readers.{ReadsVariable}
use Rattle.aig_bench.specs.Touched.{IsOnce}

-- at least four gates read the variable
pub record HasFourReaders (raw : Raw) (v : ℕ) : Type 0 where
  pub readers : List ℕ
  pub once : IsOnce readers
  pub each : (w : ℕ) → Contains readers w → ReadsVariable raw w v
  pub four : 4 ≤ length readers
