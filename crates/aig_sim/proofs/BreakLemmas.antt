-- Why a run does not keep all constraints at its first frames.
use Rattle.std.proofs.Common.{◌≡◌, ◌⊎◌, inl, inr, ℕ, ◌+◌, ◌<◌, ◌≤◌, List, [], ◌∷◌, ◌++◌, length, map, drop, get_or, refl, sym}
use Rattle.std.proofs.Common.{◌∙◌, subst, arith}
use Rattle.aig_parts.specs.declared.raw.Raw.{Raw}
use Rattle.aig_parts.specs.declared.ternary.Tern.{Tern}
use Rattle.aig_values.proofs.TraceLemmas.{first_states}
use Rattle.aig_values.specs.Characters.{character}
use Rattle.aig_sim.specs.declared.witness.breaks.Break.{Break}
use Rattle.aig_sim.specs.declared.witness.breaks.Break.TheVariants as breaks
use Rattle.aig_sim.specs.Breaks.{Breaks, BreaksNothing, IsFirstBreak, as_witness, place_of}
use Rattle.aig_sim.specs.Verdict.{IsBefore, IsNotOne, StartsWrong}
use Rattle.aig_sim.specs.WitnessText.{Witness, witness_rows_text}
use Rattle.aig_sim.specs.state.Checking.{HasRun, HoldConstraints, IsFirstFailure}
use Rattle.aig_sim.proofs.OneText.{row_ends}
use Rattle.aig_sim.proofs.VerdictLemmas.{next_row}

-- the text of the frames that are left, which no one has read
abbrev pub rest_of : List (List Tern) → ℕ → List ℕ
rest_of rows t = witness_rows_text (drop t rows)

-- before the first frame
pub run_starts : (raw : Raw) (start : List Tern) (rows : List (List Tern)) (cells : List Tern)
    → length start ≡ length raw.latches → HasRun raw (as_witness start rows) 0 (rest_of rows 0) cells start
run_starts raw start rows cells same = record {
  rest_is = refl;
  states_are = first_states raw start same;
  cells_are = λ u k. absurd (omega (arith, k));
  constrained = λ u q lt. absurd (omega (arith, lt));
}

-- the next row is the first line of what is left
pub next_line : (rows : List (List Tern)) (t : ℕ) → t < length rows
    → rest_of rows t ≡ map character (get_or rows t []) ++ (10 ∷ rest_of rows (t + 1))
next_line rows t lt = next_row rows t lt ∙ row_ends (get_or rows t []) (rest_of rows (t + 1))

module _ (raw : Raw) (start : List Tern) (rows : List (List Tern)) (k : ℕ) where
  pub breaks_start : (p : ℕ) → StartsWrong raw start p → ((q : ℕ) → q < p → StartsWrong raw start q → ⊥)
      → IsFirstBreak raw start rows k (breaks.Initial p)
  breaks_start p h least = record { applies = h; first = before }
    where
      before : (u : Break) → IsBefore (place_of u) (place_of (breaks.Initial p)) → Breaks raw start rows k u → ⊥
      before (breaks.Initial q) lt h' = least q lt h'
      before (breaks.Constraint u q) no' h' = absurd (omega (arith, no'))
      before (breaks.Frames n) no' h' = absurd (omega (arith, no'))

  module _ (right : (q : ℕ) → StartsWrong raw start q → ⊥) where
    pub breaks_constraint : (t p : ℕ) → t < k → IsFirstFailure raw (as_witness start rows) t p
        → IsFirstBreak raw start rows k (breaks.Constraint t p)
    breaks_constraint t p lt h = record { applies = (lt, h.frame, h.fails); first = before }
      where
        before : (u : Break) → IsBefore (place_of u) (place_of (breaks.Constraint t p)) → Breaks raw start rows k u → ⊥
        before (breaks.Initial q) lt' h' = right q h'
        before (breaks.Constraint u q) lt' h' = elim lt' [
          | inl below ↦ h.frames_before u q below h'.2
          | inr same ↦ h.before q same.1
              (subst (λ (n : ℕ). IsNotOne raw (as_witness start rows) n raw.constraints q) same.0 h'.2)
        ]
        before (breaks.Frames n) no' h' = absurd (omega (arith, no'))

    module _ (m : ℕ) (held : HoldConstraints raw (as_witness start rows) m) where
      pub breaks_off : length rows ≤ m → length rows < k → IsFirstBreak raw start rows k (breaks.Frames (length rows))
      breaks_off all few = record { applies = (refl, few); first = before }
        where
          before : (u : Break) → IsBefore (place_of u) (place_of (breaks.Frames (length rows))) → Breaks raw start rows k u
              → ⊥
          before (breaks.Initial q) lt' h' = right q h'
          before (breaks.Constraint u q) lt' h' = (let below = h'.1 in held u q (omega (arith, below, all)) h'.2)
          before (breaks.Frames n) no' h' = absurd (omega (arith, no'))

      pub breaks_nothing : k ≤ m → k ≤ length rows → BreaksNothing raw start rows k
      breaks_nothing all enough (breaks.Initial q) h' = right q h'
      breaks_nothing all enough (breaks.Constraint u q) h' =
          let below = h'.0 in held u q (omega (arith, below, all)) h'.2
      breaks_nothing all enough (breaks.Frames n) h' =
          let is = h'.0 in let few = h'.1 in omega (arith, is, few, enough)
