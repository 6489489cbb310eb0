use Rattle.aig_refute.proofs.DisprovedInduction.{each_disproof}
use Rattle.aig_refute.proofs.NamedInduction.{disproves, induction_disproved}
use Rattle.aig_refute.proofs.formula.law_of_induction_formula.Goals as goal

pub returns-clause-reached : goal.returns-clause-reached
returns-clause-reached c = induction_disproved

pub returns-clause-model : goal.returns-clause-model
returns-clause-model c = λ raw order k p values circuit canonical property.
    disproves raw circuit order canonical k p property values

pub returns-clause-each : goal.returns-clause-each
returns-clause-each c = λ raw order k p start rows circuit canonical disproof.
    each_disproof raw circuit order canonical k p start rows disproof
