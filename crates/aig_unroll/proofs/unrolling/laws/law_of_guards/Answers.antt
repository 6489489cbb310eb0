use Rattle.aig_unroll.proofs.GuardedValues.{all_bad}
use Rattle.aig_unroll.proofs.unrolling.laws.law_of_guards.Goals as goal

pub returns : goal.returns
returns c = λ raw order start rows circuit canonical fits allowed.
    all_bad raw circuit order canonical start rows fits allowed
