use Rattle.aig_refute.proofs.StepFormula.{each_named, names_broken_step, step_broken}
use Rattle.aig_refute.proofs.formula.law_of_step.Goals as goal

pub returns-clause-reached : goal.returns-clause-reached
returns-clause-reached c = step_broken

pub returns-clause-model : goal.returns-clause-model
returns-clause-model c = λ raw order k p values circuit canonical property.
    names_broken_step raw circuit order canonical k p property values

pub returns-clause-each : goal.returns-clause-each
returns-clause-each c = λ raw order k p start rows circuit canonical broken.
    each_named raw circuit order canonical k p start rows broken
