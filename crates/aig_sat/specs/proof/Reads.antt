-- What reading a step does to the reader.
-- Example: 1 for `input or output`, else 0.
use Rattle.std.specs.Prelude.{ℕ, Result, Ok, Err}
use Rattle.aig_sat.specs.declared.proof.fault.ReadFault.{ReadFault}
use Rattle.aig_sat.specs.declared.proof.fault.ReadFault.TheVariants as faults
use Rattle.aig_sat.specs.declared.proof.fault.ProofFault.{ProofFault}
use Rattle.aig_sat.specs.declared.proof.fault.ProofFault.TheVariants as proof_faults

-- how many reads failed, by the answer
abbrev pub reads_failed : {T : Type 0} → Result T ReadFault → ℕ
reads_failed (Ok done) = 0
reads_failed (Err faults.Io) = 1
reads_failed (Err fault) = 0

-- the fault of a proof of which a step is not read
abbrev pub proof_fault_of : ReadFault → ProofFault
proof_fault_of (faults.Text at) = proof_faults.Text at
proof_fault_of faults.Memory = proof_faults.Memory
proof_fault_of faults.Io = proof_faults.Io
