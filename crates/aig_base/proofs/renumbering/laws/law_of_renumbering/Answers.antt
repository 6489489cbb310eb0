use Rattle.aig_base.proofs.renumbered.NoOtherValue.{no_other_value}
use Rattle.aig_base.proofs.renumbered.RenumberedCircuit.{renumbered_circuit}
use Rattle.aig_base.proofs.renumbered.RenumberedReady.{renumbered_ready}
use Rattle.aig_base.proofs.renumbered.RenumberedStart.{start_stays}
use Rattle.aig_base.proofs.renumbered.RenumberedValueLemmas.{renumbered_value}
use Rattle.aig_base.proofs.renumbering.laws.law_of_renumbering.Goals as goal

pub returns-clause-circuit : goal.returns-clause-circuit
returns-clause-circuit c = λ raw order circuit canonical. renumbered_circuit raw circuit order canonical

pub returns-clause-ready : goal.returns-clause-ready
returns-clause-ready c = λ raw order circuit canonical. renumbered_ready raw circuit.sound order canonical
    circuit.acyclic

pub returns-clause-values : goal.returns-clause-values
returns-clause-values c = λ raw order start rows sound canonical t l w v. renumbered_value raw sound order canonical
    start rows v

pub returns-clause-no_other : goal.returns-clause-no_other
returns-clause-no_other c = λ raw order start rows circuit canonical fits. no_other_value raw circuit order
    canonical start rows fits

pub returns-clause-start : goal.returns-clause-start
returns-clause-start c = λ raw order circuit canonical. start_stays raw circuit order canonical
