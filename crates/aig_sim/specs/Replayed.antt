-- What is written of the run that a witness describes. Where the standard is silent, which runs are shown, and how, is
-- our own choice.
-- Example: input 2 is bad: of `1/b0//x/./` the trace is ` x  /`, though its verdict is `NotBad`.
use Rattle.std.specs.Prelude.{◌≡◌, ℕ, ◌+◌, List, Result, Ok, Err}
use Rattle.aig_parts.specs.declared.ternary.Tern.{Tern}
use Rattle.aig_parts.specs.declared.raw.Raw.{Raw}
use Rattle.aig_bytes.specs.Bytes.{after, IsBeginning}
use Rattle.aig_bytes.specs.Flow.{Flow}
use Rattle.aig_sim.specs.declared.witness.replay_fault.ReplayFault.{ReplayFault}
use Rattle.aig_sim.specs.declared.witness.replay_fault.ReplayFault.TheVariants as fault
use Rattle.aig_sim.specs.WitnessText.{Witness, SpellsWitness, IsAdmitted, HasWitnessFault}

-- The witness's text spells a witness that is admitted, and `reported` is the text of its run: from its own start,
-- over all its rows, whatever its verdict. `IsText` says which text a run from a start with some rows has.
pub record ReportsRun (IsText : Raw → List Tern → List (List Tern) → List ℕ → Type 0) (raw : Raw)
    (text reported : List ℕ)
    : Type 0 where
  pub witness : Witness
  pub spells : SpellsWitness raw text witness
  pub admitted : IsAdmitted raw witness
  pub reported_is : IsText raw witness.start witness.rows reported

-- What the replay of a witness's text wrote, whatever it returns beside. All went well: the whole text of the run. A failed write: a prefix of
-- it. A witness that is refused, or no memory: nothing.
abbrev pub Replays : {X A : Type 0} → (Raw → List Tern → List (List Tern) → List ℕ → Type 0) → Raw → List ℕ
    → Flow X → Result A ReplayFault → Type 0
Replays IsText raw text out (Ok _) =
    (reported : List ℕ) × ReportsRun IsText raw text reported × (out.bytes out.new ≡ after (out.bytes out.old) reported)
    × (out.failures out.new ≡ out.failures out.old)
Replays IsText raw text out (Err fault.Io) =
    (reported : List ℕ) × (done : List ℕ) × ReportsRun IsText raw text reported × IsBeginning done reported
    × (out.bytes out.new ≡ after (out.bytes out.old) done) × (out.failures out.new ≡ out.failures out.old + 1)
Replays IsText raw text out (Err (fault.Witness why)) =
    HasWitnessFault raw text why × (out.new ≡ out.old)
