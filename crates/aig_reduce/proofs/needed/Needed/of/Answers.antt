use Rattle.aig_reduce.proofs.NeededLemmas.{x_alone}
use Rattle.aig_reduce.proofs.needed.Needed.of.Goals as goal

pub returns-clause-starts : goal.returns-clause-starts
returns-clause-starts g c =
    c.look_back.ensures.starts (λ i w at n start rows k x. absurd (n (x_alone _ i w _ c.in_ok-start.ensures at)))
