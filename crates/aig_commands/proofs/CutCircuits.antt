-- A cut circuit, from what is written of it.
use Rattle.std.proofs.Common.{ℕ, List, Result, Err}
use Rattle.aig_parts.specs.declared.raw.Raw.{Raw}
use Rattle.aig_format.specs.declared.reader.header.Format.{Format}
use Rattle.aig_cut.specs.Lines.{IsCutBy}
use Rattle.aig_command.specs.declared.run_fault.RunFault.{RunFault}
use Rattle.aig_command.specs.declared.run_fault.RunFault.TheVariants as run_faults
use Rattle.aig_commands.specs.Cut.{WritesCut}
use Rattle.aig_commands.specs.Toaig.{Converts}

pub writes_cut : (cuts : List ℕ) (to : Format) (raw x : Raw) → IsCutBy raw cuts x → (answer : Result (Unit {0}) RunFault)
    (bytes : List ℕ) → Converts to x answer bytes → WritesCut cuts to raw answer bytes
writes_cut cuts to raw x is (Err (run_faults.Cut fault)) bytes m = absurd m
writes_cut cuts to raw x is answer bytes m = (x, is, m)
