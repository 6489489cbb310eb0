use Rattle.aig_base.proofs.checks.Acyclic.{acyclic}
use Rattle.aig_base.proofs.checks.NoFault.{no_fault, sound}
use Rattle.aig_base.proofs.circuit.laws.law_of_faults.Goals as goal

pub returns-clause-circuit : goal.returns-clause-circuit
returns-clause-circuit c = no_fault

pub returns-clause-sound : goal.returns-clause-sound
returns-clause-sound c = sound

pub returns-clause-acyclic : goal.returns-clause-acyclic
returns-clause-acyclic c = λ raw never. acyclic raw (sound raw never) never
