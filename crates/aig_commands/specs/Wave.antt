-- What `wave` writes: a value change dump (IEEE 1364) of a run. Which runs it shows is our own choice.
-- Examples: with a faulty line 2: the header and the first frame, without the line that ends a dump; on a device that
-- takes 10 bytes, all of the stimulus is left.
use Rattle.std.specs.Prelude.{◌≡◌, ◌⊎◌, ℕ, List, [], ◌++◌, length, Result, Ok, Err}
use Rattle.aig_parts.specs.declared.ternary.Tern.{Tern}
use Rattle.aig_parts.specs.declared.raw.Raw.{Raw}
use Rattle.aig_bytes.specs.Bytes.{after}
use Rattle.aig_bytes.specs.Flow.{Flow}
use Rattle.aig_base.specs.Value.{start_of}
use Rattle.aig_sim.specs.declared.stimulus.fault.StimFault.TheVariants as stimuli
use Rattle.aig_sim.specs.Dump.{IsDump, AreFrames, closing}
use Rattle.aig_sim.specs.DumpHeader.{header}
use Rattle.aig_sim.specs.Replayed.{ReportsRun}
use Rattle.aig_command.specs.declared.run_fault.RunFault.{RunFault}
use Rattle.aig_command.specs.declared.run_fault.RunFault.TheVariants.{Stimulus}
use Rattle.aig_command.specs.Command.{Text}
use Rattle.aig_commands.specs.Check.{RefusesWitness}
use Rattle.aig_commands.specs.Sim.{AreRowsOf}

-- the text of a dump with these frames, by the answer: whole; nothing where no memory was found; else without the line
-- that ends a dump
abbrev pub dump_text : Raw → ℕ → List ℕ → Result ℕ RunFault → List ℕ
dump_text raw n frames (Ok count) = header raw ++ (frames ++ closing n)
dump_text raw n frames (Err (Stimulus stimuli.Memory)) = []
dump_text raw n frames (Err fault) = header raw ++ frames

-- what `wave` answers and writes for what was read of a stimulus of a circuit
pub record WritesWave (stimulus : Text) (raw : Raw) (answer : Result ℕ RunFault) (written : List ℕ) : Type 0 where
  pub rows : List (List Tern)
  pub frames : List ℕ
  pub rows_are : AreRowsOf (length raw.inputs) stimulus rows answer
  pub frames_are : AreFrames raw (start_of raw) rows (length rows) frames
  pub written_is : written ≡ dump_text raw (length rows) frames answer

-- No byte of the stimulus was read, or the whole header of the circuit was written, and then what follows.
abbrev pub HeaderFirst : {Y X : Type 0} → Flow Y → Flow X → Raw → Type 0
HeaderFirst stimulus out raw =
    (stimulus.bytes stimulus.new ≡ stimulus.bytes stimulus.old)
    ⊎ ((more : List ℕ) × (out.bytes out.new ≡ after (out.bytes out.old) (header raw ++ more)))

-- what `wave --witness` writes for a witness of a circuit: the dump of its run
abbrev pub DumpsRun : List ℕ → Raw → Result (Unit {0}) RunFault → List ℕ → Type 0
DumpsRun text raw (Ok done) written =
    ReportsRun (λ raw start rows reported. IsDump raw start rows reported) raw text written
DumpsRun text raw (Err fault) written = RefusesWitness text raw fault written
