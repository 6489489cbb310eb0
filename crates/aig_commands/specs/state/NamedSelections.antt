-- What is known of a circuit whose properties are selected and named.
use Rattle.std.specs.Prelude.{◌≡◌, ◌⊎◌}
use Rattle.aig_parts.specs.declared.raw.Raw.{Raw}
use Rattle.aig_base.specs.Selected.{selected, CanSelect, RefusesSelection}
use Rattle.aig_base.specs.declared.select.SelectFault.{SelectFault}
use Rattle.aig_signals.specs.Named.{IsNamed, RefusesNames}
use Rattle.aig_signals.specs.declared.property.fault.NamesFault.{NamesFault}
use Rattle.aig_command.specs.declared.run_fault.RunFault.{RunFault}
use Rattle.aig_command.specs.declared.run_fault.RunFault.TheVariants as run_faults
use Rattle.aig_commands.specs.declared.select.NamedSelection.{NamedSelection}

-- x is the circuit that keeps these properties, under these names
abbrev pub IsSelectedAndNamed : NamedSelection → Raw → Raw → Type 0
IsSelectedAndNamed s raw x =
    CanSelect raw s.from s.positions.now × IsNamed (selected raw s.from s.into s.positions.now) s.into s.names.now x

-- why there is none
abbrev pub RefusesNamedSelection : NamedSelection → Raw → RunFault → Type 0
RefusesNamedSelection s raw part =
    ((fault : SelectFault) × (part ≡ run_faults.Select fault) × RefusesSelection raw s.from s.positions.now fault)
    ⊎ ((fault : NamesFault) × (part ≡ run_faults.Names fault) × CanSelect raw s.from s.positions.now
    × RefusesNames (selected raw s.from s.into s.positions.now) s.into s.names.now fault)
