-- Why a run does not keep all constraints at its first frames (AIGER 1.9, invariant constraints and resets). Where the
-- standard is silent, as about x, this is our own choice.
-- Example: input 2 is a constraint: the rows `1`, `x` keep it for one frame, and break it at frame 1.
use Rattle.std.specs.Prelude.{◌≡◌, ℕ, ◌<◌, ◌≤◌, List, length}
use Rattle.aig_parts.specs.declared.raw.Raw.{Raw}
use Rattle.aig_parts.specs.declared.ternary.Tern.{Tern}
use Rattle.aig_parts.specs.Limits.{frame_limit}
use Rattle.aig_sim.specs.declared.witness.breaks.Break.{Break}
use Rattle.aig_sim.specs.declared.witness.breaks.Break.TheVariants as breaks
use Rattle.aig_sim.specs.declared.witness.fault.WitnessFault.{WitnessFault}
use Rattle.aig_sim.specs.declared.witness.fault.WitnessFault.TheVariants as fault
use Rattle.aig_sim.specs.declared.witness.verdict.Verdict.{Verdict}
use Rattle.aig_sim.specs.declared.witness.verdict.Verdict.TheVariants as verdict
use Rattle.aig_sim.specs.Verdict.{IsBefore, IsNotOne, StartsWrong}
use Rattle.aig_sim.specs.WitnessText.{Witness, SpellsWitness}

-- the run, as a witness of some property
abbrev pub as_witness : List Tern → List (List Tern) → Witness
as_witness start rows = record { property = 0; start = start; rows = rows }

-- this is why the run does not keep all constraints at its first k frames
abbrev pub Breaks : Raw → List Tern → List (List Tern) → ℕ → Break → Type 0
Breaks raw start rows k (breaks.Initial p) = StartsWrong raw start p
Breaks raw start rows k (breaks.Constraint t p) =
    (t < k) × (t < length rows) × IsNotOne raw (as_witness start rows) t raw.constraints p
Breaks raw start rows k (breaks.Frames n) = (n ≡ length rows) × (n < k)

-- the place of a reason in the order of the verdicts: missing frames come after all constraints
abbrev pub place_of : Break → Verdict
place_of (breaks.Initial p) = verdict.Initial p
place_of (breaks.Constraint t p) = verdict.Constraint t p
place_of (breaks.Frames n) = verdict.NotBad

-- the first reason
pub record IsFirstBreak (raw : Raw) (start : List Tern) (rows : List (List Tern)) (k : ℕ) (b : Break) : Type 0 where
  pub applies : Breaks raw start rows k b
  pub first : (u : Break) → IsBefore (place_of u) (place_of b) → Breaks raw start rows k u → ⊥

-- there is none
abbrev pub BreaksNothing : Raw → List Tern → List (List Tern) → ℕ → Type 0
BreaksNothing raw start rows k = (b : Break) → Breaks raw start rows k b → ⊥

-- the text is a witness of this run, of whatever property
abbrev pub SpellsRun : Raw → List ℕ → List Tern → List (List Tern) → Type 0
SpellsRun raw text start rows =
    (w : Witness) × SpellsWitness raw text w × (w.start ≡ start) × (w.rows ≡ rows) × (length rows ≤ frame_limit)

-- the first of the faults of a text from which only the run is read: no witness's text; over 65,536 frames
abbrev pub HasRunFault : Raw → List ℕ → WitnessFault → Type 0
HasRunFault raw text fault.Text = (w : Witness) → SpellsWitness raw text w → ⊥
HasRunFault raw text fault.Property = ⊥
HasRunFault raw text fault.Limit = (w : Witness) × SpellsWitness raw text w × (frame_limit < length w.rows)
HasRunFault raw text fault.Memory = Unit {0}
