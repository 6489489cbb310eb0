-- What `sim` writes: the trace of a run. The text of stimulus and trace is our own choice.
-- Example: stimulus `11/1/`: the trace of the row `11`, and `Length(2)`.
use Rattle.std.specs.Prelude.{◌≡◌, ℕ, ◌-◌, ◌^◌, min, IsTrue, List, [], length, Result, Ok, Err}
use Rattle.aig_parts.specs.declared.ternary.Tern.{Tern}
use Rattle.aig_parts.specs.declared.raw.Raw.{Raw}
use Rattle.aig_base.specs.Value.{start_of}
use Rattle.aig_sim.specs.declared.stimulus.fault.StimFault.TheVariants as stimuli
use Rattle.aig_sim.specs.StimulusText.{SpellsRows, HasFaultyLine, HoldsRows}
use Rattle.aig_values.specs.Trace.{IsTrace}
use Rattle.aig_command.specs.declared.run_fault.RunFault.{RunFault}
use Rattle.aig_command.specs.declared.run_fault.RunFault.TheVariants.{Stimulus}
use Rattle.aig_command.specs.Command.{Text}

-- The rows that a run has read of a stimulus, by its answer. With how many they are: all of the whole text (the
-- greatest number of 64 bits stands for any greater). With a faulty line: those before it; a limit on frames is none of
-- a run that streams. Where a read failed: all that were read whole. Where no memory was found, nothing was read.
abbrev pub AreRowsOf : ℕ → Text → List (List Tern) → Result ℕ RunFault → Type 0
AreRowsOf width text rows (Ok count) =
    SpellsRows width text.bytes rows × IsTrue text.is_whole × (count ≡ min (length rows) (2 ^ 64 - 1))
AreRowsOf width text rows (Err (Stimulus stimuli.Unfinished)) =
    HasFaultyLine width text.bytes rows stimuli.Unfinished × IsTrue text.is_whole
AreRowsOf width text rows (Err (Stimulus stimuli.Io)) = HoldsRows width text.bytes rows
AreRowsOf width text rows (Err (Stimulus stimuli.Memory)) = (text.bytes ≡ []) × (rows ≡ [])
AreRowsOf width text rows (Err (Stimulus stimuli.Limit)) = ⊥
AreRowsOf width text rows (Err (Stimulus fault)) = HasFaultyLine width text.bytes rows fault
AreRowsOf width text rows (Err _) = ⊥

-- what `sim` answers and writes for what was read of a stimulus of a circuit
pub record WritesSimulation (stimulus : Text) (raw : Raw) (answer : Result ℕ RunFault) (written : List ℕ) : Type 0 where
  pub rows : List (List Tern)
  pub rows_are : AreRowsOf (length raw.inputs) stimulus rows answer
  pub trace_is : IsTrace raw (start_of raw) rows written
