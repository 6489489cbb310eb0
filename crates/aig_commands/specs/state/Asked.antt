-- Why a witness is refused where a property may be asked for, before it is checked.
-- Example: `1/b0//1/./` is refused as one of property 0 where property 1 is asked for.
use Rattle.std.specs.Prelude.{◌≡◌, ◌≢◌, ℕ, List, Option, None, Some}
use Rattle.aig_parts.specs.declared.raw.Raw.{Raw}
use Rattle.aig_sim.specs.WitnessText.{IsWitnessOf, HasWitnessFault}
use Rattle.aig_command.specs.declared.run_fault.RunFault.{RunFault}
use Rattle.aig_command.specs.declared.run_fault.RunFault.TheVariants as run_faults

-- the text is no admitted witness, or one of another property
abbrev pub RefusesAsked : Option ℕ → Raw → List ℕ → RunFault → Type 0
RefusesAsked (Some asked) raw text (run_faults.Witness fault) = HasWitnessFault raw text fault
RefusesAsked (Some asked) raw text (run_faults.OtherProperty found other) =
    (other ≡ asked) × (found ≢ asked) × IsWitnessOf found raw text
RefusesAsked _ raw text fault = ⊥
