use Rattle.aig_refute.proofs.ReadFormulas.{read_alive, read_induction, read_last, read_step, read_within}
use Rattle.aig_refute.proofs.read_formula.law_of_read_formula.Goals as goal

pub returns-clause-within : goal.returns-clause-within
returns-clause-within c = λ raw formula k p circuit h. read_within raw circuit formula k p h

pub returns-clause-last : goal.returns-clause-last
returns-clause-last c = λ raw formula k p circuit h some. read_last raw circuit formula k p h some

pub returns-clause-step : goal.returns-clause-step
returns-clause-step c = λ raw formula k p circuit h. read_step raw circuit formula k p h

pub returns-clause-induction : goal.returns-clause-induction
returns-clause-induction c = λ raw formula k p circuit h. read_induction raw circuit formula k p h

pub returns-clause-alive : goal.returns-clause-alive
returns-clause-alive c = λ raw formula k circuit h some. read_alive raw circuit formula k h some
