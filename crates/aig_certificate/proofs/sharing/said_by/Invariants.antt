use Rattle.aig_certificate.proofs.SaidPairs.{IsEntered}
use Rattle.aig_certificate.proofs.sharing.said_by.Given as goal

abbrev pub invariant-loop-pair : goal.invariant-loop-pair
invariant-loop-pair l = IsEntered l.pairs l.variables l.pair-index l.said
