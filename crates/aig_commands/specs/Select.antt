-- What `select` writes: a circuit with some of its properties, in a format (our own choice).
-- Example: `aag 1 1 0 1 0/2/3/` from outputs: `aag 1 1 0 0 0 1/2/3/`.
use Rattle.std.specs.Prelude.{◌≡◌, ℕ, List, [], Result, Err}
use Rattle.aig_parts.specs.declared.raw.Raw.{Raw}
use Rattle.aig_base.specs.declared.select.PropertySection.{PropertySection}
use Rattle.aig_base.specs.Selected.{selected, CanSelect, RefusesSelection}
use Rattle.aig_format.specs.declared.reader.header.Format.{Format}
use Rattle.aig_signals.specs.Named.{IsNamed, RefusesNames}
use Rattle.aig_command.specs.declared.run_fault.RunFault.{RunFault}
use Rattle.aig_command.specs.declared.run_fault.RunFault.TheVariants as run_faults
use Rattle.aig_commands.specs.Toaig.{Converts}
use Rattle.aig_commands.specs.declared.select.NamedSelection.{NamedSelection}

-- what `select` writes for a circuit: what `toaig` writes for the circuit that keeps these properties; nothing where
-- they cannot be selected, or where no memory was found
abbrev pub Selects : PropertySection → PropertySection → List ℕ → Format → Raw → Result (Unit {0}) RunFault → List ℕ
    → Type 0
Selects from into named to raw (Err (run_faults.Select fault)) text =
    RefusesSelection raw from named fault × (text ≡ [])
Selects from into named to raw answer text =
    CanSelect raw from named × Converts to (selected raw from into named) answer text

-- what `select --names` writes for a circuit: what `toaig` writes for the circuit that keeps these properties under the
-- names of the text; nothing where they cannot be selected, where the text is no line per property, or where no memory
-- was found
abbrev pub SelectsNamed : NamedSelection → Format → Raw → Result (Unit {0}) RunFault → List ℕ → Type 0
SelectsNamed s to raw (Err (run_faults.Select fault)) text =
    RefusesSelection raw s.from s.positions.now fault × (text ≡ [])
SelectsNamed s to raw (Err (run_faults.Names fault)) text =
    CanSelect raw s.from s.positions.now
    × RefusesNames (selected raw s.from s.into s.positions.now) s.into s.names.now fault × (text ≡ [])
SelectsNamed s to raw answer text =
    CanSelect raw s.from s.positions.now
    × ((x : Raw) × IsNamed (selected raw s.from s.into s.positions.now) s.into s.names.now x
    × Converts to x answer text)
