-- The value of a literal at a frame: 0, 1 or x, unknown (AIGER 1.0 and 1.9, semantics; x is our own choice).
-- Example: in `examples/two_gates.aag` with the rows `11`, `01` literal 8 is 1 at frame 0 and 0 at frame 1.
use Rattle.std.specs.Prelude.{◌≡◌, ℕ, zero, suc, ◌-◌, ◌<◌, List, map, length, Some, slice_get, All}
use Rattle.aig_parts.specs.declared.ternary.Tern.{Tern}
use Rattle.aig_parts.specs.declared.ternary.Tern.TheVariants.{Zero, One, X}
use Rattle.aig_parts.specs.declared.gate.Gate.{Gate}
use Rattle.aig_parts.specs.declared.latch.Latch.{Latch}
use Rattle.aig_parts.specs.declared.raw.Raw.{Raw}
use Rattle.aig_parts.specs.Literal.{variable, IsNegated}
use Rattle.aig_parts.specs.Ternary.{kleene_and, kleene_not}
use Rattle.aig_base.specs.Sections.{IsDefined}

-- Value raw start rows t l w: at frame t literal l has the value w, where the latches start at these values and the
-- inputs have a row a frame
pub data Value (raw : Raw) (start : List Tern) (rows : List (List Tern)) : ℕ → ℕ → Tern → Type 0 where
  constant_false : (t : ℕ) → Value raw start rows t 0 Zero
  constant_true : (t : ℕ) → Value raw start rows t 1 One
  input : (t p l : ℕ) (w : Tern) (row : List Tern) → slice_get raw.inputs p ≡ Some l
      → slice_get rows t ≡ Some row → slice_get row p ≡ Some w → Value raw start rows t l w
  latch_first : (p : ℕ) (x : Latch) (w : Tern) → slice_get raw.latches p ≡ Some x
      → slice_get start p ≡ Some w → Value raw start rows 0 x.lit w
  latch_next : (t p : ℕ) (x : Latch) (w : Tern) → slice_get raw.latches p ≡ Some x
      → Value raw start rows t x.next w → Value raw start rows (suc t) x.lit w
  gate : (t q : ℕ) (g : Gate) (a b : Tern) → slice_get raw.gates q ≡ Some g
      → Value raw start rows t g.rhs0 a → Value raw start rows t g.rhs1 b
      → Value raw start rows t g.lhs (kleene_and a b)
  negated : (t l : ℕ) (w : Tern) → 1 < l → IsNegated l
      → Value raw start rows t (l - 1) w → Value raw start rows t l (kleene_not w)

-- a value for each latch, and rows with a value for each input
pub record Fits (raw : Raw) (start : List Tern) (rows : List (List Tern)) : Type 0 where
  pub latches : length start ≡ length raw.latches
  pub inputs : All (λ row. length row ≡ length raw.inputs) rows

-- P holds of one value and of no other
abbrev pub ExactlyOne : (Tern → Type 0) → Type 0
ExactlyOne P = (w : Tern) × P w × ((v : Tern) → P v → v ≡ w)

-- each defined literal has exactly one value at each frame that has a row
abbrev pub HaveOneValue : Raw → List Tern → List (List Tern) → Type 0
HaveOneValue raw start rows =
    (t l : ℕ) → t < length rows → IsDefined raw (variable l) → ExactlyOne (Value raw start rows t l)

-- the value of a reset; an uninitialised latch begins with x (AIGER 1.9, resets)
abbrev pub reset_value : ℕ → Tern
reset_value zero = Zero
reset_value (suc zero) = One
reset_value (suc (suc n)) = X

-- the start by resets
abbrev pub start_of : Raw → List Tern
start_of raw = map (λ x. reset_value x.reset) raw.latches
