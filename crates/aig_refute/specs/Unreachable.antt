-- Bad states that no run reaches (AIGER 1.9, bad state properties; frames that are unknown are our own choice).
-- Examples: a bad literal 0, for each k; a latch that keeps 0, as a bad literal; a constraint 0, for each k but 0.
use Rattle.std.specs.Prelude.{ℕ, ◌<◌, List}
use Rattle.aig_parts.specs.declared.raw.Raw.{Raw}
use Rattle.aig_parts.specs.declared.ternary.Tern.{Tern}
use Rattle.aig_base.specs.Runs.{ReachesProperty}
use Rattle.aig_refute.specs.Satisfiable.{KeepsConstraints}

-- No run from a start that the resets allow reaches property p at one of the first k frames: at no such frame the
-- property is 1 and all constraints were 1 up to it. Starts and rows may have unknown values, and any number of rows
-- may follow.
abbrev pub IsUnreachableWithin : Raw → ℕ → ℕ → Type 0
IsUnreachableWithin raw k p =
    (start : List Tern) (rows : List (List Tern)) (t : ℕ) → t < k → ReachesProperty raw start rows t p → ⊥

-- No run from a start that the resets allow, of any length, reaches property p.
abbrev pub IsUnreachable : Raw → ℕ → Type 0
IsUnreachable raw p =
    (start : List Tern) (rows : List (List Tern)) (t : ℕ) → ReachesProperty raw start rows t p → ⊥

-- No run from a start that the resets allow keeps all constraints at its first k frames: from frame k - 1 on, every
-- property is unreachable, whatever it says.
abbrev pub HasNoRun : Raw → ℕ → Type 0
HasNoRun raw k = (start : List Tern) (rows : List (List Tern)) → KeepsConstraints raw k start rows → ⊥
