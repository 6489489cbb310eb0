-- What `check --alive` answers and writes: whether a run keeps all constraints at its first frames. How an answer is
-- written is our own choice.
-- Example: input 2 is a constraint: for `1/b0//1/x/./` and one frame `alive/`, for two frames `constraint 1 0/`.
use Rattle.std.specs.Prelude.{◌≡◌, ℕ, List, [], ◌++◌, length, Option, None, Some, Result, Ok, Err, codes}
use Rattle.std.specs.Fmt.{decimal}
use Rattle.std.specs.Option.{unwrap_or}
use Rattle.aig_parts.specs.declared.raw.Raw.{Raw}
use Rattle.aig_parts.specs.declared.ternary.Tern.{Tern}
use Rattle.aig_sim.specs.declared.witness.breaks.Break.{Break}
use Rattle.aig_sim.specs.declared.witness.breaks.Break.TheVariants as breaks
use Rattle.aig_sim.specs.declared.witness.verdict.Verdict.TheVariants as verdict
use Rattle.aig_sim.specs.Breaks.{HasRunFault, IsFirstBreak, SpellsRun}
use Rattle.aig_refute.specs.Satisfiable.{KeepsConstraints}
use Rattle.aig_command.specs.Command.{IsFileOf}
use Rattle.aig_command.specs.declared.run_fault.RunFault.{RunFault}
use Rattle.aig_command.specs.declared.run_fault.RunFault.TheVariants as run_faults
use Rattle.aig_commands.specs.Check.{verdict_text}

-- the line of an answer: what breaks the run, or that nothing does
abbrev pub alive_text : Option Break → List ℕ
alive_text None = codes "alive\n"
alive_text (Some (breaks.Initial latch)) = verdict_text (verdict.Initial latch)
alive_text (Some (breaks.Constraint frame constraint)) = verdict_text (verdict.Constraint frame constraint)
alive_text (Some (breaks.Frames count)) = codes "frames " ++ (decimal count ++ codes "\n")

-- how many frames are asked for: all that there are, if no number is given
abbrev pub frames_asked : Option ℕ → List (List Tern) → ℕ
frames_asked asked rows = unwrap_or asked (length rows)

-- what the answer says of a run: it keeps all constraints at its first k frames, or the first reason why it does not
abbrev pub SaysOfRun : Raw → List Tern → List (List Tern) → ℕ → Option Break → Type 0
SaysOfRun raw start rows k None = KeepsConstraints raw k start rows
SaysOfRun raw start rows k (Some reason) = IsFirstBreak raw start rows k reason

-- the text is a witness, and the answer is about its run
pub record ShowsRun (raw : Raw) (asked : Option ℕ) (text : List ℕ) (answer : Option Break) : Type 0 where
  pub start : List Tern
  pub rows : List (List Tern)
  pub spelled : SpellsRun raw text start rows
  pub says : SaysOfRun raw start rows (frames_asked asked rows) answer

-- what it answers and writes for a witness of a circuit
abbrev pub ChecksRun : Option ℕ → List ℕ → Raw → Result (Option Break) RunFault → List ℕ → Type 0
ChecksRun asked text raw (Ok answer) written = ShowsRun raw asked text answer × (written ≡ alive_text answer)
ChecksRun asked text raw (Err (run_faults.Witness fault)) written = HasRunFault raw text fault × (written ≡ [])
ChecksRun asked text raw (Err _) written = ⊥

-- the text is a witness, and its run keeps all constraints for the frames that are asked for, or for all that it has
abbrev pub HoldsAlive : Raw → Option ℕ → List ℕ → Type 0
HoldsAlive raw asked text =
    (start : List Tern) × (rows : List (List Tern)) × SpellsRun raw text start rows
    × KeepsConstraints raw (frames_asked asked rows) start rows

-- the files are a circuit and such a witness of it
abbrev pub AreAlive : Option ℕ → List ℕ → List ℕ → Type 0
AreAlive asked file text = (raw : Raw) × IsFileOf file raw × HoldsAlive raw asked text
