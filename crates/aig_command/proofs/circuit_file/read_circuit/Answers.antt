use Rattle.aig_command.proofs.CircuitFiles.{is_file, refuses_circuit}
use Rattle.aig_command.proofs.circuit_file.read_circuit.Goals as goal

pub returns-clause-circuit : goal.returns-clause-circuit
returns-clause-circuit c = let h = c.read.ensures in is_file c.args.file.now c.read.result h.answers h.circuit

pub returns-clause-fault : goal.returns-clause-fault
returns-clause-fault c = let h = c.read.ensures in refuses_circuit c.args.file.now c.read.result h.answers h.io
