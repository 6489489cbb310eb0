-- The run that is given with a circuit (our own choice).
-- Example: by a stimulus of two lines it has two frames, and its latches start by the resets.
use Rattle.std.specs.Prelude.{◌≡◌, ℕ, List, [], length, Option, None, Some}
use Rattle.std.specs.Borrow.{Bor}
use Rattle.aig_parts.specs.declared.raw.Raw.{Raw}
use Rattle.aig_parts.specs.declared.ternary.Tern.{Tern}
use Rattle.aig_base.specs.Value.{start_of}
use Rattle.aig_sim.specs.StimulusText.{SpellsRows}
use Rattle.aig_sim.specs.WitnessText.{Witness, SpellsWitness, IsAdmitted, HasWitnessFault}
use Rattle.aig_command.specs.Command.{RefusesStimulus}
use Rattle.aig_command.specs.declared.given.Given.{Given}
use Rattle.aig_command.specs.declared.given.Given.TheVariants as given
use Rattle.aig_command.specs.declared.given.GivenRun.{GivenRun}
use Rattle.aig_command.specs.declared.run_fault.RunFault.{RunFault}
use Rattle.aig_command.specs.declared.run_fault.RunFault.TheVariants as run_faults

-- a run: the property that a witness names, what the latches start at, and the inputs' values frame by frame
pub record ReadRun : Type 0 where
  pub property : Option ℕ
  pub start : List Tern
  pub rows : List (List Tern)

-- as a function returns it
abbrev pub read_run : GivenRun → ReadRun
read_run r = record { property = r.property; start = r.start.items; rows = r.rows.rows }

-- by the text behind a reference
abbrev pub given_text : {T : Type 0} → Given (Bor T) → Given T
given_text given.Nothing = given.Nothing
given_text (given.Stimulus text) = given.Stimulus text.now
given_text (given.Witness text) = given.Witness text.now

-- the run over some rows, from the start by the resets
abbrev pub by_resets : Raw → List (List Tern) → ReadRun
by_resets raw rows = record { property = None; start = start_of raw; rows = rows }

-- The run of a circuit that is given so: it has no frames; or the rows of a stimulus; or it is that of a witness.
abbrev pub IsGiven : Raw → Given (List ℕ) → ReadRun → Type 0
IsGiven raw given.Nothing run = run ≡ by_resets raw []
IsGiven raw (given.Stimulus text) run =
    (rows : List (List Tern)) × SpellsRows (length raw.inputs) text rows × (run ≡ by_resets raw rows)
IsGiven raw (given.Witness text) run =
    (w : Witness) × SpellsWitness raw text w × IsAdmitted raw w
    × (run ≡ record { property = Some w.property; start = w.start; rows = w.rows })

-- Why none is read: the text is refused; or a run is given, and there is no memory for it.
abbrev pub RefusesGiven : Raw → Given (List ℕ) → RunFault → Type 0
RefusesGiven raw (given.Stimulus text) (run_faults.Stimulus fault) = RefusesStimulus (length raw.inputs) text fault
RefusesGiven raw (given.Witness text) (run_faults.Witness fault) = HasWitnessFault raw text fault
RefusesGiven raw given run_faults.Memory = (run : ReadRun) × IsGiven raw given run
RefusesGiven raw given _ = ⊥
