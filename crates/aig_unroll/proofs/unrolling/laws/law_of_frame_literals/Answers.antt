use Rattle.aig_unroll.proofs.UnrolledValues.{frame_value, no_other_value}
use Rattle.aig_unroll.proofs.unrolling.laws.law_of_frame_literals.Goals as goal

pub returns-clause-values : goal.returns-clause-values
returns-clause-values c = λ raw order start rows circuit canonical fits allowed t l w lt v.
    frame_value raw circuit order canonical start rows fits allowed lt v

pub returns-clause-no_other : goal.returns-clause-no_other
returns-clause-no_other c = λ raw order start rows circuit canonical fits allowed.
    no_other_value raw circuit order canonical start rows fits allowed
