-- What a fault of one part is for the run.
-- Example: a write of a whole circuit that fails is `Output`.
use Rattle.std.specs.Prelude.{Result, Ok, Err}
use Rattle.aig_command.specs.declared.run_fault.RunFault.{RunFault}
use Rattle.aig_command.specs.declared.run_fault.RunFault.TheVariants as run_faults

-- a failing write is the output's
abbrev pub output_of : {T E : Type 0} → Result T E → Result T RunFault
output_of (Ok done) = Ok done
output_of (Err fault) = Err run_faults.Output
