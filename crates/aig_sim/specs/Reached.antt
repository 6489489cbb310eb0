-- The first frame of a run at which a bad state property is reached, and the witness of it. Where the standard is
-- silent, as about x, this is our own choice.
-- Example: input 2 is bad: of the rows `x`, `1`, `1` frame 1 is the first.
use Rattle.std.specs.Prelude.{◌≡◌, ◌⊎◌, ℕ, ◌+◌, ◌<◌, List, length, take, Option, Some, None}
use Rattle.aig_parts.specs.declared.raw.Raw.{Raw}
use Rattle.aig_parts.specs.declared.ternary.Tern.{Tern}
use Rattle.aig_sim.specs.declared.witness.verdict.Verdict.TheVariants as verdict
use Rattle.aig_sim.specs.Verdict.{IsVerdict}
use Rattle.aig_sim.specs.WitnessText.{Witness}

-- the witness that a run reaches property p at frame t: its frames up to that one
abbrev pub witness_at : List Tern → List (List Tern) → ℕ → ℕ → Witness
witness_at start rows t p = record { property = p; start = start; rows = take (t + 1) rows }

-- the run has the frame, the circuit has the property, and the witness that it is reached there is confirmed
pub record Reaches (raw : Raw) (start : List Tern) (rows : List (List Tern)) (t p : ℕ) : Type 0 where
  pub frame : t < length rows
  pub property : p < length raw.bad
  pub confirmed : IsVerdict raw (witness_at start rows t p) verdict.Confirmed

-- the property is the one that is asked for; any is, where none is named
abbrev pub IsAskedFor : Option ℕ → ℕ → Type 0
IsAskedFor None p = Unit {0}
IsAskedFor (Some asked) p = p ≡ asked

-- no frame of the run reaches a property that is asked for
abbrev pub ReachesNone : Raw → List Tern → List (List Tern) → Option ℕ → Type 0
ReachesNone raw start rows asked = (t p : ℕ) → IsAskedFor asked p → Reaches raw start rows t p → ⊥

-- frame t reaches property p, which is asked for; no earlier frame reaches one, and frame t none that stands before p
pub record IsFirstReached (raw : Raw) (start : List Tern) (rows : List (List Tern)) (asked : Option ℕ) (t p : ℕ)
    : Type 0 where
  pub asked_for : IsAskedFor asked p
  pub reaches : Reaches raw start rows t p
  pub first : (u q : ℕ) → (u < t) ⊎ ((u ≡ t) × (q < p)) → IsAskedFor asked q → Reaches raw start rows u q → ⊥
