-- When the cells of a frame are the values (AIGER 1.0 and 1.9, semantics; x is our own choice).
-- Example: cells 0, 1, 1, 1, 1 hold frame 0 of `examples/two_gates.aag` with `11/`.
use Rattle.std.specs.Prelude.{◌≡◌, ℕ, ◌*◌, List, Some, slice_get}
use Rattle.std.specs.List.{AllZip}
use Rattle.aig_parts.specs.declared.ternary.Tern.{Tern}
use Rattle.aig_parts.specs.declared.latch.Latch.{Latch}
use Rattle.aig_parts.specs.declared.raw.Raw.{Raw}
use Rattle.aig_base.specs.Grounded.{IsSource}
use Rattle.aig_parts.specs.Literal.{variable}
use Rattle.aig_base.specs.Sections.{IsDefined}
use Rattle.aig_base.specs.Value.{Value}

-- The latches start at the values `start`, and the inputs have the rows `rows`.

-- the cell of the variable is its value at frame t
pub record Holds (raw : Raw) (start : List Tern) (rows : List (List Tern)) (t : ℕ) (cells : List Tern) (v : ℕ) : Type
    0 where
  pub cell : Tern
  pub cell_is : slice_get cells v ≡ Some cell
  pub value_is : Value raw start rows t (2 * v) cell

-- what was a value at frame t stays one
pub record Renews (raw : Raw) (start : List Tern) (rows : List (List Tern)) (t : ℕ) (old new : List Tern) : Type 0 where
  pub keeps : (v : ℕ) → Holds raw start rows t old v → Holds raw start rows t new v

-- the cells of the inputs
abbrev pub HoldsInputs : Raw → List Tern → List (List Tern) → ℕ → List Tern → Type 0
HoldsInputs raw start rows t cells = (i l : ℕ) → slice_get raw.inputs i ≡ Some l
    → Holds raw start rows t cells (variable l)

-- a frame's row was written: what was a value stays one, and the cells of the inputs are values
pub record PutsInputs (raw : Raw) (row old new : List Tern) : Type 0 where
  pub renews : (start : List Tern) (rows : List (List Tern)) (t : ℕ) → slice_get rows t ≡ Some row
      → Renews raw start rows t old new
  pub inputs : (start : List Tern) (rows : List (List Tern)) (t : ℕ) → slice_get rows t ≡ Some row
      → HoldsInputs raw start rows t new

-- the cells of the latches
abbrev pub HoldsLatches : Raw → List Tern → List (List Tern) → ℕ → List Tern → Type 0
HoldsLatches raw start rows t cells = (i : ℕ) (x : Latch) → slice_get raw.latches i ≡ Some x
    → Holds raw start rows t cells (variable x.lit)

-- the cells of variable 0, the inputs and the latches
abbrev pub HoldsSources : Raw → List Tern → List (List Tern) → ℕ → List Tern → Type 0
HoldsSources raw start rows t cells = (v : ℕ) → IsSource raw v → Holds raw start rows t cells v

-- the cells of all variables that are defined
abbrev pub HoldsAll : Raw → List Tern → List (List Tern) → ℕ → List Tern → Type 0
HoldsAll raw start rows t cells = (v : ℕ) → IsDefined raw v → Holds raw start rows t cells v

-- a value for each latch at frame t
pub record AreStates (raw : Raw) (start : List Tern) (rows : List (List Tern)) (t : ℕ) (states : List Tern) : Type
    0 where
  pub each : AllZip (λ x w. Value raw start rows t x.lit w) raw.latches states
