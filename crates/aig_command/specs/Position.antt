-- Which property a text names in a circuit's file.
use Rattle.std.specs.Prelude.{◌≡◌, ◌⊎◌, ℕ, List}
use Rattle.aig_parts.specs.declared.fault.Fault.{Fault}
use Rattle.aig_parts.specs.declared.raw.Raw.{Raw}
use Rattle.aig_base.specs.declared.select.PropertySection.{PropertySection}
use Rattle.aig_signals.specs.Property.{IsPosition, RefusesProperty}
use Rattle.aig_signals.specs.declared.property.fault.PropertyFault.{PropertyFault}
use Rattle.aig_command.specs.Command.{IsFileOf, RefusesCircuit}
use Rattle.aig_command.specs.declared.run_fault.RunFault.{RunFault}
use Rattle.aig_command.specs.declared.run_fault.RunFault.TheVariants as run_faults

-- the text names the property at this position of the file's circuit
abbrev pub IsPositionIn : List ℕ → PropertySection → List ℕ → ℕ → Type 0
IsPositionIn file section text p = (raw : Raw) × IsFileOf file raw × IsPosition raw section text p

-- why it names none: the file is refused, or its circuit has none
abbrev pub RefusesPositionIn : List ℕ → PropertySection → List ℕ → RunFault → Type 0
RefusesPositionIn file section text part =
    ((fault : Fault) × (part ≡ run_faults.Circuit fault) × RefusesCircuit file fault)
    ⊎ ((fault : PropertyFault) × (part ≡ run_faults.Property fault)
    × ((raw : Raw) × IsFileOf file raw × RefusesProperty raw section text fault))
