-- An explanation, frame by frame from the last one down: what is named at a frame explains the latches that are named
-- at the frame after it (our own choice).
-- Example: the latch that takes 6 as its next state, asked for at frame 1, has one line: the first input.
use Rattle.std.specs.Prelude.{◌≡◌, ℕ, ◌+◌, ◌-◌, ◌<◌, ◌≤◌, ◌↔◌, List, [], ◌∷◌, length, flat_map, All, Contains, Some}
use Rattle.std.specs.Prelude.{slice_get, Bool, true, IsTrue}
use Rattle.std.specs.List.Sorted.{IsStrictlyIncreasing}
use Rattle.aig_parts.specs.declared.latch.Latch.{Latch}
use Rattle.aig_parts.specs.declared.raw.Raw.{Raw}
use Rattle.aig_parts.specs.declared.ternary.Tern.{Tern}
use Rattle.aig_bench.specs.BenchState.{CircuitAndRows}
use Rattle.aig_causes.specs.Causes.{AreInOrder, AreThere, Explain, ExplainUnknown, Has, Moment, Sources, moment}
use Rattle.aig_causes.specs.Lines.{next}

-- A line: latches of a frame by their positions, what explains them at the frame before, and whether they keep their
-- values.
pub record LineState : Type 0 where
  pub latches : List ℕ
  pub causes : Sources
  pub kept : Bool

-- the latch has the same value at the next frame
abbrev pub KeepsValue : Raw → Moment → ℕ → Type 0
KeepsValue raw m p =
    (x : Latch) (w : Tern) → slice_get raw.latches p ≡ Some x → Has raw m x.lit w → Has raw (next m) x.lit w

-- these latches are all that is named, and have the same values at the next frame
pub record AreKept (raw : Raw) (m : Moment) (latches : List ℕ) (causes : Sources) : Type 0 where
  pub no_inputs : causes.inputs ≡ []
  pub same : causes.latches ≡ latches
  pub values : All (KeepsValue raw m) latches

-- A line is right: what it names at m explains the next state of each of its latches, be that known or x.
pub record IsLine (raw : Raw) (m : Moment) (line : LineState) : Type 0 where
  pub known : (p : ℕ) (x : Latch) → Contains line.latches p → slice_get raw.latches p ≡ Some x
      → Explain raw m line.causes x.next
  pub unknown : (p : ℕ) (x : Latch) → Contains line.latches p → slice_get raw.latches p ≡ Some x
      → ExplainUnknown raw m line.causes x.next
  pub there : AreThere raw line.causes
  pub order : AreInOrder line.causes
  pub kept : IsTrue line.kept ↔ AreKept raw m line.latches line.causes

-- the latches that these lines explain
abbrev pub left_sides : List LineState → List ℕ
left_sides lines = flat_map (λ x. x.latches) lines

-- all that these lines name
abbrev pub named_by : List LineState → Sources
named_by lines = record {
  inputs = flat_map (λ x. x.causes.inputs) lines;
  latches = flat_map (λ x. x.causes.latches) lines;
}

-- right lines at m for the latches of the next frame that are named and below a position, one line for each
pub record AreLines (raw : Raw) (m : Moment) (named : List ℕ) (end : ℕ) (lines : List LineState) : Type 0 where
  pub right : All (IsLine raw m) lines
  pub each : (p : ℕ) → Contains named p → p < end → Contains (left_sides lines) p
  pub only : (p : ℕ) → Contains (left_sides lines) p → Contains named p × (p < end)

-- what explains the literals that were asked for, at their frame
pub record IsAsked (raw : Raw) (m : Moment) (literals : List ℕ) (asked : Sources) : Type 0 where
  pub known : All (Explain raw m asked) literals
  pub unknown : All (ExplainUnknown raw m asked) literals
  pub there : AreThere raw asked
  pub order : AreInOrder asked

-- latches that explain themselves: they are among the literals that were asked for
pub record ExplainThemselves (raw : Raw) (literals : List ℕ) (asked : Sources) : Type 0 where
  pub inputs : asked.inputs ≡ []
  pub latches : (p : ℕ) → Contains asked.latches p
      → (x : Latch) × (slice_get raw.latches p ≡ Some x) × Contains literals x.lit

-- what is named at the lowest of these frames; where there is none, at the frame that was asked for
abbrev pub named_at : Sources → List (List LineState) → Sources
named_at asked [] = asked
named_at asked (lines ∷ frames) = named_by lines

-- the inputs that are named at each frame after the lowest one
abbrev pub inputs_after : Sources → List (List LineState) → List (List ℕ)
inputs_after asked [] = []
inputs_after asked (lines ∷ frames) = (named_at asked frames).inputs ∷ inputs_after asked frames

-- The literals that were asked for are explained down to m: by these lines of each frame from m on, the lowest frame
-- first.
unfoldable pub ComesDown : Raw → List ℕ → Sources → Moment → List (List LineState) → Type 0
ComesDown raw literals asked m [] = IsAsked raw m literals asked
ComesDown raw literals asked m (lines ∷ frames) =
    AreLines raw m (named_at asked frames).latches (length raw.latches) lines
    × ComesDown raw literals asked (next m) frames

-- What is kept of an explanation: for how many variables it is, what is named where it began, whether latches alone
-- were asked for, its frame, which latches are named there, below which position they are explained, and which latches
-- that names at the frame before.
pub record ExplanationState : Type 0 where
  pub variables : ℕ
  pub asked : Sources
  pub latches_alone : Bool
  pub frame : ℕ
  pub named : List Bool
  pub end : ℕ
  pub below : List Bool

abbrev pub IsNamed : List Bool → ℕ → Type 0
IsNamed named p = slice_get named p ≡ Some true

-- the latches from a position up to another one that are named, in order
pub record AreNamedBetween (named : List Bool) (first end : ℕ) (latches : List ℕ) : Type 0 where
  pub each : (p : ℕ) → first ≤ p → p < end → IsNamed named p → Contains latches p
  pub only : (p : ℕ) → Contains latches p → (first ≤ p) × (p < end) × IsNamed named p
  pub order : IsStrictlyIncreasing latches

-- the explanation is one of literals of the run of this circuit
pub record IsOf (p : CircuitAndRows) (e : ExplanationState) : Type 0 where
  pub variables : e.variables ≡ p.circuit.max_var + 1
  pub frame : e.frame < length p.rows
  pub named : length e.named ≡ length p.circuit.latches
  pub below : length e.below ≡ length p.circuit.latches
  pub end : e.end ≤ length p.circuit.latches

-- An explanation has come down to its frame by these lines of each frame from there on, the lowest frame first, and has
-- these lines of the frame before so far.
pub record HasCome (p : CircuitAndRows) (literals : List ℕ) (e : ExplanationState) (frames : List (List LineState))
    (lines : List LineState) : Type 0 where
  pub down : ComesDown p.circuit literals e.asked (moment p e.frame) frames
  pub named : (q : ℕ) → IsNamed e.named q ↔ Contains (named_at e.asked frames).latches q
  pub so_far : AreLines p.circuit (moment p (e.frame - 1)) (named_at e.asked frames).latches e.end lines
  pub below : (q : ℕ) → IsNamed e.below q ↔ Contains (named_by lines).latches q
