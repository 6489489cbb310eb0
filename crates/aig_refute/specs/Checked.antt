-- What the check of a proof answers.
-- Example: 1 for `input or output`, else 0.
use Rattle.std.specs.Prelude.{ℕ, Result, Ok, Err}
use Rattle.aig_sat.specs.declared.proof.fault.ProofFault.{ProofFault}
use Rattle.aig_sat.specs.declared.proof.fault.ProofFault.TheVariants as faults

-- how many reads of the proof failed, by the answer
abbrev pub check_reads_failed : Result (Unit {0}) ProofFault → ℕ
check_reads_failed (Ok done) = 0
check_reads_failed (Err faults.Io) = 1
check_reads_failed (Err fault) = 0
