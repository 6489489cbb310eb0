-- The greatest level and the greatest fan-out of a circuit (our own choice).
-- Example: in `examples/two_gates.aag` the greatest level is 2, and variable 1 is read by 2 gates.
use Rattle.std.specs.Prelude.{◌≡◌, ℕ, ◌≤◌, Bool, ◌||◌, nat_eq, count_by}
use Rattle.aig_parts.specs.declared.gate.Gate.{Gate}
use Rattle.aig_parts.specs.declared.raw.Raw.{Raw}
use Rattle.aig_parts.specs.Literal.{variable}
use Rattle.aig_base.specs.Grounded.{Level}

-- some variable has the level n, and none has a greater one; so n is 0 where there is no gate
pub record IsGreatestLevel (raw : Raw) (n : ℕ) : Type 0 where
  pub reached : (v : ℕ) × Level raw v n
  pub bound : (v m : ℕ) → Level raw v m → m ≤ n

-- the gate reads the variable, at one side or at both
abbrev pub reads : ℕ → Gate → Bool
reads v g = nat_eq (variable g.rhs0) v || nat_eq (variable g.rhs1) v

-- how many gates read the variable
abbrev pub fan_out : Raw → ℕ → ℕ
fan_out raw v = count_by (reads v) raw.gates

-- n gates read some variable, and no variable is read by more
pub record IsGreatestFanOut (raw : Raw) (n : ℕ) : Type 0 where
  pub reached : (v : ℕ) × (fan_out raw v ≡ n)
  pub bound : (v : ℕ) → fan_out raw v ≤ n
