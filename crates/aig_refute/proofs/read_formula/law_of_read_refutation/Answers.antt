use Rattle.aig_refute.proofs.ReadFormulas.{read_by_induction, read_no_run, read_one_formula, read_unreachable_within}
use Rattle.aig_refute.proofs.read_formula.law_of_read_refutation.Goals as goal

pub returns-clause-within : goal.returns-clause-within
returns-clause-within c = λ raw formula k p circuit h refuted. read_unreachable_within raw circuit formula k p h refuted

pub returns-clause-induction : goal.returns-clause-induction
returns-clause-induction c = λ raw base later k p circuit b l br lr. read_by_induction raw circuit base later k p b l br lr

pub returns-clause-one_formula : goal.returns-clause-one_formula
returns-clause-one_formula c = λ raw formula k p circuit h refuted. read_one_formula raw circuit formula k p h refuted

pub returns-clause-alive : goal.returns-clause-alive
returns-clause-alive c = λ raw formula k circuit some h refuted. read_no_run raw circuit formula k some h refuted
