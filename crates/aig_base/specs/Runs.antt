-- Starts that the resets allow, and runs that reach a bad state (AIGER 1.9, resets, bad state properties and invariant
-- constraints; x is our own choice).
-- Example: input 2 is bad, input 4 a constraint: the rows `01`, `11` reach it at frame 1, `00`, `11` do not.
use Rattle.std.specs.Prelude.{◌≡◌, ◌⊎◌, ℕ, ◌<◌, ◌≤◌, List, length, Contains, Some, slice_get}
use Rattle.aig_parts.specs.declared.latch.Latch.{Latch}
use Rattle.aig_parts.specs.declared.raw.Raw.{Raw}
use Rattle.aig_parts.specs.declared.ternary.Tern.{Tern}
use Rattle.aig_parts.specs.declared.ternary.Tern.TheVariants.{One}
use Rattle.aig_base.specs.Value.{Value, Fits, reset_value}

-- the latch may start at the value: an uninitialised one at any, another at that of its reset
abbrev pub Allows : Latch → Tern → Type 0
Allows x w = (x.reset ≡ x.lit) ⊎ (w ≡ reset_value x.reset)

-- each latch may start at its value
abbrev pub IsAllowed : Raw → List Tern → Type 0
IsAllowed raw start = (p : ℕ) (x : Latch) (w : Tern) → slice_get raw.latches p ≡ Some x → slice_get start p ≡ Some w
    → Allows x w

-- the bad literal is 1 at frame t, and every constraint is 1 at every frame up to t
abbrev pub ReachesBad : Raw → List Tern → List (List Tern) → ℕ → ℕ → Type 0
ReachesBad raw start rows t b =
    Value raw start rows t b One
    × ((s c : ℕ) → s ≤ t → Contains raw.constraints c → Value raw start rows s c One)

-- the run fits the circuit, starts as the resets allow, and reaches property p at its frame t
abbrev pub ReachesProperty : Raw → List Tern → List (List Tern) → ℕ → ℕ → Type 0
ReachesProperty raw start rows t p =
    Fits raw start rows × IsAllowed raw start × (t < length rows)
    × ((b : ℕ) × (slice_get raw.bad p ≡ Some b) × ReachesBad raw start rows t b)
