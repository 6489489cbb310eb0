-- What `cut` writes: a circuit in which some parts may be anything, in a format (our own choice).
-- Example: `aag 1 0 1 0 0 1/2 3/2/` and `f 2/`: `aag 2 1 1 0 0 1/4/2 4/2/`.
use Rattle.std.specs.Prelude.{◌≡◌, ℕ, List, [], Result, Err}
use Rattle.aig_parts.specs.declared.raw.Raw.{Raw}
use Rattle.aig_format.specs.declared.reader.header.Format.{Format}
use Rattle.aig_cut.specs.Lines.{IsCutBy, RefusesCut}
use Rattle.aig_command.specs.declared.run_fault.RunFault.{RunFault}
use Rattle.aig_command.specs.declared.run_fault.RunFault.TheVariants as run_faults
use Rattle.aig_commands.specs.Toaig.{Converts}

-- what `cut` writes for a circuit: what `toaig` writes for the circuit that is cut as the text says; nothing where the
-- text names what the circuit does not have, where the cut circuit is over a limit, or where no memory was found
abbrev pub WritesCut : List ℕ → Format → Raw → Result (Unit {0}) RunFault → List ℕ → Type 0
WritesCut cuts to raw (Err (run_faults.Cut fault)) text = RefusesCut raw cuts fault × (text ≡ [])
WritesCut cuts to raw answer text = (x : Raw) × IsCutBy raw cuts x × Converts to x answer text
