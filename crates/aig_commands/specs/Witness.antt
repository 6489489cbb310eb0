-- What `witness` writes: the witness that a run reaches a bad state.
-- Example: input 2 is bad: for `0/1/1/` it is `1/b0//0/1/./`.
use Rattle.std.specs.Prelude.{◌≡◌, ℕ, ◌<◌, ◌≤◌, List, [], length, Option, Some, IfSome, Result, Ok, Err}
use Rattle.aig_parts.specs.declared.raw.Raw.{Raw}
use Rattle.aig_parts.specs.declared.ternary.Tern.{Tern}
use Rattle.aig_base.specs.Value.{start_of}
use Rattle.aig_sim.specs.Reached.{IsFirstReached, ReachesNone, witness_at}
use Rattle.aig_sim.specs.StimulusText.{SpellsRows}
use Rattle.aig_sim.specs.WitnessText.{SpellsWitness}
use Rattle.aig_sim.specs.declared.witness.reach_fault.ReachFault.TheVariants as reaches
use Rattle.aig_command.specs.declared.run_fault.RunFault.{RunFault}
use Rattle.aig_command.specs.declared.run_fault.RunFault.TheVariants as run_faults
use Rattle.aig_command.specs.Command.{RefusesStimulus}

-- the text is the witness of the first frame at which a run reaches a property that is asked for; its verdict is
-- `confirmed`
pub record SpellsFirst (raw : Raw) (start : List Tern) (rows : List (List Tern)) (asked : Option ℕ) (text : List ℕ)
    : Type 0 where
  pub frame : ℕ
  pub property : ℕ
  pub first : IsFirstReached raw start rows asked frame property
  pub spelled : SpellsWitness raw text (witness_at start rows frame property)

-- the circuit has the property that is asked for
abbrev pub HasAsked : Raw → Option ℕ → Type 0
HasAsked raw asked = IfSome asked (λ p. p < length raw.bad)

-- What `witness` writes for the rows of a stimulus, from the start by the circuit's resets: the witness; nothing where
-- the circuit lacks the property, the stimulus is refused, or no frame reaches a property that is asked for.
abbrev pub WritesWitness : Option ℕ → List ℕ → Raw → Result (Unit {0}) RunFault → List ℕ → Type 0
WritesWitness asked stimulus raw (Ok done) text =
    (rows : List (List Tern)) × SpellsRows (length raw.inputs) stimulus rows
    × SpellsFirst raw (start_of raw) rows asked text
WritesWitness asked stimulus raw (Err (run_faults.Reach reaches.Property)) text =
    ((p : ℕ) × (asked ≡ Some p) × (length raw.bad ≤ p)) × (text ≡ [])
WritesWitness asked stimulus raw (Err (run_faults.Stimulus fault)) text =
    HasAsked raw asked × RefusesStimulus (length raw.inputs) stimulus fault × (text ≡ [])
WritesWitness asked stimulus raw (Err (run_faults.Reach reaches.NoRun)) text =
    HasAsked raw asked
    × ((rows : List (List Tern)) × SpellsRows (length raw.inputs) stimulus rows
    × ReachesNone raw (start_of raw) rows asked)
    × (text ≡ [])
WritesWitness asked stimulus raw (Err (run_faults.Reach reaches.Memory)) text = text ≡ []
WritesWitness asked stimulus raw (Err _) text = ⊥
