use Rattle.aig_base.proofs.values.OneValue.{have_one_value}
use Rattle.aig_refute.proofs.CutLemmas.{carried, carried_alive}
use Rattle.aig_refute.proofs.cut.law_of_cut.Goals as goal

pub returns-clause-ever : goal.returns-clause-ever
returns-clause-ever c = λ raw x p circuit cut none start rows t reached.
    let it = carried raw x cut start rows (have_one_value raw start rows circuit.sound circuit.acyclic) t p reached in
    none start it.0 t it.1

pub returns-clause-within : goal.returns-clause-within
returns-clause-within c = λ raw x k p circuit cut none start rows t lt reached.
    let it = carried raw x cut start rows (have_one_value raw start rows circuit.sound circuit.acyclic) t p reached in
    none start it.0 t lt it.1

pub returns-clause-alive : goal.returns-clause-alive
returns-clause-alive c = λ raw x k circuit cut none start rows kept.
    let it = carried_alive raw x cut start rows (have_one_value raw start rows circuit.sound circuit.acyclic) k kept in
    none start it.0 it.1
