use Rattle.aig_refute.proofs.PartialModels.{names_run, names_whole_run, fills}
use Rattle.aig_refute.proofs.partial_models.law_of_partial_models.Goals as goal

pub returns-clause-partial : goal.returns-clause-partial
returns-clause-partial c = λ raw order k p values circuit canonical property enough.
    names_run raw circuit order canonical k values enough p property

pub returns-clause-whole : goal.returns-clause-whole
returns-clause-whole c = λ raw order k p values whole circuit canonical property h same.
    names_whole_run raw circuit order canonical k p values whole property h same

pub returns-clause-filling : goal.returns-clause-filling
returns-clause-filling c = λ clauses values whole filling. fills values whole filling clauses
