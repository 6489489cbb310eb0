-- Which inputs and latches make a literal of a run what it is at a frame (our own choice).
-- Examples: `6 = 2 AND 4` with the row `01`: the first input explains 6, for wherever it is 0, 6 is 0; with the row
-- `x1`, where the first input is 0 or 1, so is 6.
use Rattle.std.specs.Prelude.{◌≡◌, ◌≢◌, ℕ, ◌<◌, List, length, Contains, Some, slice_get}
use Rattle.std.specs.List.Sorted.{IsStrictlyIncreasing}
use Rattle.aig_parts.specs.declared.latch.Latch.{Latch}
use Rattle.aig_parts.specs.declared.raw.Raw.{Raw}
use Rattle.aig_parts.specs.declared.ternary.Tern.{Tern}
use Rattle.aig_parts.specs.declared.ternary.Tern.TheVariants.{X}
use Rattle.aig_base.specs.Value.{Value, Fits, start_of}
use Rattle.aig_bench.specs.BenchState.{CircuitAndRows}

-- a run at one of its frames: what the latches start at, the inputs' rows, the frame
pub record Moment : Type 0 where
  pub start : List Tern
  pub rows : List (List Tern)
  pub frame : ℕ

-- the run of a bench at a frame
abbrev pub moment : CircuitAndRows → ℕ → Moment
moment p t = record { start = start_of p.circuit; rows = p.rows; frame = t }

-- the literal has the value there
abbrev pub Has : Raw → Moment → ℕ → Tern → Type 0
Has raw m l w = Value raw m.start m.rows m.frame l w

-- the run is one of the circuit, and has the frame
pub record IsMoment (raw : Raw) (m : Moment) : Type 0 where
  pub fits : Fits raw m.start m.rows
  pub frame : m.frame < length m.rows

-- inputs and latches by their positions
pub record Sources : Type 0 where
  pub inputs : List ℕ
  pub latches : List ℕ

-- each of these inputs and latches that is 0 or 1 at m has the same value at n
pub record Agree (raw : Raw) (sources : Sources) (m n : Moment) : Type 0 where
  pub inputs : (p l : ℕ) (w : Tern) → Contains sources.inputs p → slice_get raw.inputs p ≡ Some l
      → w ≢ X → Has raw m l w → Has raw n l w
  pub latches : (p : ℕ) (x : Latch) (w : Tern) → Contains sources.latches p → slice_get raw.latches p ≡ Some x
      → w ≢ X → Has raw m x.lit w → Has raw n x.lit w

-- A literal that is 0 or 1 at m has the same value wherever these inputs and latches have theirs: in each run, at each
-- frame, whatever the others are there.
abbrev pub Explain : Raw → Moment → Sources → ℕ → Type 0
Explain raw m sources l =
    (w : Tern) → w ≢ X → Has raw m l w → (n : Moment) → IsMoment raw n → Agree raw sources m n → Has raw n l w

-- a value that is not x stays, and one that is named is 0 or 1 then
abbrev pub Settles : Type 0 → Tern → Tern → Type 0
Settles named w v = (w ≢ X → v ≡ w) × (named → v ≢ X)

-- n has what is known at m of the inputs and latches, and 0 or 1 at each of these
pub record Settled (raw : Raw) (sources : Sources) (m n : Moment) : Type 0 where
  pub inputs : (p l : ℕ) (w v : Tern) → slice_get raw.inputs p ≡ Some l → Has raw m l w → Has raw n l v
      → Settles (Contains sources.inputs p) w v
  pub latches : (p : ℕ) (x : Latch) (w v : Tern) → slice_get raw.latches p ≡ Some x → Has raw m x.lit w
      → Has raw n x.lit v → Settles (Contains sources.latches p) w v

-- A literal that is x at m is 0 or 1 wherever all known inputs and latches have their values, and these are 0 or 1.
abbrev pub ExplainUnknown : Raw → Moment → Sources → ℕ → Type 0
ExplainUnknown raw m sources l =
    Has raw m l X → (n : Moment) → IsMoment raw n → Settled raw sources m n → (v : Tern) → Has raw n l v → v ≢ X

-- the circuit has each of these inputs and latches
pub record AreThere (raw : Raw) (sources : Sources) : Type 0 where
  pub inputs : (p : ℕ) → Contains sources.inputs p → p < length raw.inputs
  pub latches : (p : ℕ) → Contains sources.latches p → p < length raw.latches

-- each of these inputs and latches once, the smallest position first
pub record AreInOrder (sources : Sources) : Type 0 where
  pub inputs : IsStrictlyIncreasing sources.inputs
  pub latches : IsStrictlyIncreasing sources.latches
