use Rattle.aig_refute.proofs.BadFormula.{names_witness, in_model}
use Rattle.aig_refute.proofs.WithinFormula.{each_named, within_reached, within_witnessed}
use Rattle.aig_refute.proofs.formula.law_of_formula.Goals as goal

pub returns-clause-reached : goal.returns-clause-reached
returns-clause-reached c = within_reached

pub returns-clause-witnessed : goal.returns-clause-witnessed
returns-clause-witnessed c = within_witnessed

pub returns-clause-model : goal.returns-clause-model
returns-clause-model c = λ raw order k p values circuit canonical. names_witness raw circuit order canonical k p values

pub returns-clause-each : goal.returns-clause-each
returns-clause-each c = λ raw order k p w circuit canonical known. each_named raw circuit order canonical k p w known

pub returns-clause-complete : goal.returns-clause-complete
returns-clause-complete c = λ raw order k t p row circuit canonical lt property wide all.
    in_model raw circuit order canonical k row wide all t p lt property
