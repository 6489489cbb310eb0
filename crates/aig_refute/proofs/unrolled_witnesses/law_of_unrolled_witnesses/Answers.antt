use Rattle.aig_refute.proofs.UnrolledWitnesses.{reaches_in_row, confirms_row, checks_row, in_row}
use Rattle.aig_refute.proofs.unrolled_witnesses.law_of_unrolled_witnesses.Goals as goal

pub returns-clause-reached : goal.returns-clause-reached
returns-clause-reached c = λ raw order k row circuit canonical. reaches_in_row raw circuit order canonical k row

pub returns-clause-confirmed : goal.returns-clause-confirmed
returns-clause-confirmed c = λ raw order k row circuit canonical. confirms_row raw circuit order canonical k row

pub returns-clause-checked : goal.returns-clause-checked
returns-clause-checked c = λ raw order k row circuit canonical. checks_row raw circuit order canonical k row

pub returns-clause-each : goal.returns-clause-each
returns-clause-each c = λ raw order k w circuit canonical. in_row raw circuit order canonical k w
