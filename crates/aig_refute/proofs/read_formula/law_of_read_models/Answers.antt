use Rattle.aig_refute.proofs.SpreadModels.{spread_induction, spread_named, spread_step, spread_whole}
use Rattle.aig_refute.proofs.read_formula.law_of_read_models.Goals as goal

pub returns-clause-partial : goal.returns-clause-partial
returns-clause-partial c = λ raw k p bad test order values circuit is exact canonical h enough.
    spread_named raw circuit p bad test is exact order canonical k values enough h

pub returns-clause-whole : goal.returns-clause-whole
returns-clause-whole c = λ raw k p bad test order values whole circuit is exact canonical h same.
    spread_whole raw circuit p bad test is exact order canonical k values whole h same

pub returns-clause-step : goal.returns-clause-step
returns-clause-step c = λ raw k p bad test order values start rows circuit is exact canonical h completes.
    spread_step raw circuit p bad test is exact order canonical k values start rows completes h

pub returns-clause-induction : goal.returns-clause-induction
returns-clause-induction c = λ raw k p bad test order values start rows circuit is exact canonical h completes.
    spread_induction raw circuit p bad test is exact order canonical k values start rows completes h
