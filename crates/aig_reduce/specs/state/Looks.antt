-- What a look at a bench's values shows.
use Rattle.std.specs.Prelude.{◌≡◌, ℕ, ◌-◌, ◌<◌, ◌≤◌, length, Some, slice_get}
use Rattle.aig_parts.specs.declared.ternary.Tern.TheVariants.{One}
use Rattle.aig_parts.specs.Literal.{variable}
use Rattle.aig_base.specs.Sections.{IsDefined}
use Rattle.aig_base.specs.Sound.{IsInRange}
use Rattle.aig_bench.specs.BenchState.{CircuitAndRows, HasValue}

-- the literal has a value at the frame
pub record IsLiteralAt (p : CircuitAndRows) (t l : ℕ) : Type 0 where
  pub frame : t < length p.rows
  pub range : IsInRange p.circuit l
  pub defined : IsDefined p.circuit (variable l)

-- all constraints are 1 at the frame
abbrev pub AreOne : CircuitAndRows → ℕ → Type 0
AreOne p t = (q l : ℕ) → slice_get p.circuit.constraints q ≡ Some l → HasValue p t l One

-- the property is 1 at the last frame
abbrev pub IsBad : CircuitAndRows → ℕ → Type 0
IsBad p property = (l : ℕ) → slice_get p.circuit.bad property ≡ Some l → HasValue p (length p.rows - 1) l One

-- all constraints are 1 from frame t on, and the property at the last
pub record ReachesFrom (p : CircuitAndRows) (property t : ℕ) : Type 0 where
  pub constrained : (u : ℕ) → t ≤ u → u < length p.rows → AreOne p u
  pub bad : IsBad p property
