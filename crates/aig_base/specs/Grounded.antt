-- The variables that rest on inputs and latches alone (AIGER 1.0: gate definitions are not cyclic), and their levels
-- (our own choice).
-- Example: in `examples/two_gates.aag` variable 3 has level 1 and variable 4 level 2.
use Rattle.std.specs.Prelude.{◌≡◌, ℕ, ◌+◌, max, Some, slice_get}
use Rattle.aig_parts.specs.declared.gate.Gate.{Gate}
use Rattle.aig_parts.specs.declared.latch.Latch.{Latch}
use Rattle.aig_parts.specs.declared.raw.Raw.{Raw}
use Rattle.aig_parts.specs.Literal.{variable}
use Rattle.aig_base.specs.Sections.{IsGate}

-- variable 0, an input or a latch
pub data IsSource (raw : Raw) : ℕ → Type 0 where
  constant : IsSource raw 0
  input : (p l : ℕ) → slice_get raw.inputs p ≡ Some l → IsSource raw (variable l)
  latch : (p : ℕ) (x : Latch) → slice_get raw.latches p ≡ Some x → IsSource raw (variable x.lit)

-- the least set that holds the sources, and each gate whose two right sides' variables are in it
pub data Grounded (raw : Raw) : ℕ → Type 0 where
  source : (v : ℕ) → IsSource raw v → Grounded raw v
  gate : (q : ℕ) (g : Gate) → slice_get raw.gates q ≡ Some g
      → Grounded raw (variable g.rhs0) → Grounded raw (variable g.rhs1) → Grounded raw (variable g.lhs)

abbrev pub IsAcyclic : Raw → Type 0
IsAcyclic raw = (v : ℕ) → IsGate raw v → Grounded raw v

-- 0 for a source, and one more than the greater level of the right sides for a gate
pub data Level (raw : Raw) : ℕ → ℕ → Type 0 where
  source : (v : ℕ) → IsSource raw v → Level raw v 0
  gate : (q : ℕ) (g : Gate) (a b : ℕ) → slice_get raw.gates q ≡ Some g
      → Level raw (variable g.rhs0) a → Level raw (variable g.rhs1) b → Level raw (variable g.lhs) (max a b + 1)
