-- Values of a circuit over frames, and of its unrolled form at its one frame.
-- Example: rows `1`, `0` and start `x` make the row `10x`.
use Rattle.std.specs.Prelude.{◌≡◌, ◌⊎◌, ◌↔◌, ℕ, ◌+◌, ◌*◌, ◌<◌, ◌≤◌, if◌then◌else◌, List, [], ◌∷◌, ◌++◌, length}
use Rattle.std.specs.Prelude.{flat_map, Contains, Some, slice_get}
use Rattle.aig_parts.specs.declared.latch.Latch.{Latch}
use Rattle.aig_parts.specs.declared.raw.Raw.{Raw}
use Rattle.aig_parts.specs.declared.ternary.Tern.{Tern}
use Rattle.aig_parts.specs.declared.ternary.Tern.TheVariants.{Zero, One, X}
use Rattle.aig_parts.specs.Literal.{variable}
use Rattle.aig_base.specs.Runs.{ReachesBad}
use Rattle.aig_base.specs.Sections.{IsDefined}
use Rattle.aig_base.specs.Value.{Value}
use Rattle.aig_unroll.specs.FrameLiteral.{frame_literal, is_uninitialised}
use Rattle.aig_unroll.specs.Unrolled.{unrolled}

-- the start values of the uninitialised latches, in order
abbrev pub free_values : List Latch → List Tern → List Tern
free_values [] start = []
free_values (x ∷ xs) [] = []
free_values (x ∷ xs) (w ∷ start) = if is_uninitialised x then w ∷ free_values xs start else free_values xs start

-- the one row of the unrolled circuit: the rows in turn, then the start values of the uninitialised latches
abbrev pub unrolled_row : Raw → List Tern → List (List Tern) → List Tern
unrolled_row raw start rows = flat_map (λ row. row) rows ++ free_values raw.latches start

-- the literal has the value in the circuit that is unrolled for as many frames as there are rows
abbrev pub UnrolledValue : Raw → List ℕ → List Tern → List (List Tern) → ℕ → Tern → Type 0
UnrolledValue raw order start rows l w =
    Value (unrolled raw order (length rows)) [] (unrolled_row raw start rows ∷ []) 0 l w

-- what a literal is at a frame, its frame literal is
abbrev pub UnrollingKeepsValues : Raw → List ℕ → List Tern → List (List Tern) → Type 0
UnrollingKeepsValues raw order start rows =
    (t l : ℕ) (w : Tern) → t < length rows → Value raw start rows t l w
    → UnrolledValue raw order start rows (frame_literal raw order (length rows) t l) w

-- the frame literal of a defined literal has no other value
abbrev pub UnrollingAddsNoValues : Raw → List ℕ → List Tern → List (List Tern) → Type 0
UnrollingAddsNoValues raw order start rows =
    (t l : ℕ) (w : Tern) → t < length rows → IsDefined raw (variable l)
    → UnrolledValue raw order start rows (frame_literal raw order (length rows) t l) w → Value raw start rows t l w

-- the bad literal is 0 at frame t, or a constraint is 0 at a frame up to t
abbrev pub IsExcluded : Raw → List Tern → List (List Tern) → ℕ → ℕ → Type 0
IsExcluded raw start rows t b =
    Value raw start rows t b Zero
    ⊎ ((s : ℕ) × (c : ℕ) × (s ≤ t) × Contains raw.constraints c × Value raw start rows s c Zero)

-- what the guard of a bad literal is at a frame
abbrev pub GuardedValue : Raw → List Tern → List (List Tern) → ℕ → ℕ → Tern → Type 0
GuardedValue raw start rows t b One = ReachesBad raw start rows t b
GuardedValue raw start rows t b Zero = IsExcluded raw start rows t b
GuardedValue raw start rows t b X = (ReachesBad raw start rows t b → ⊥) × (IsExcluded raw start rows t b → ⊥)

-- bad literal p of frame t stands in the bad section of the unrolled circuit, and it is what its guard is
abbrev pub GuardsBad : Raw → List ℕ → List Tern → List (List Tern) → Type 0
GuardsBad raw order start rows =
    (t p b : ℕ) → t < length rows → slice_get raw.bad p ≡ Some b
    → (g : ℕ) × (slice_get (unrolled raw order (length rows)).bad (t * length raw.bad + p) ≡ Some g)
    × ((w : Tern) → UnrolledValue raw order start rows g w ↔ GuardedValue raw start rows t b w)
