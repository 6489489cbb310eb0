use Rattle.aig_sat.proofs.checking.WordLemmas.{shrinks_then}
use Rattle.aig_sat.proofs.checker.propagator.Propagator.watch.Goals as goal

pub returns-in_err-add-clause-clauses : goal.returns-in_err-add-clause-clauses
returns-in_err-add-clause-clauses c = shrinks_then _ _ _ c.exchange.ensures c.exchange-2.ensures

pub returns-clause-clauses : goal.returns-clause-clauses
returns-clause-clauses c = shrinks_then _ _ _ c.exchange.ensures c.exchange-2.ensures
