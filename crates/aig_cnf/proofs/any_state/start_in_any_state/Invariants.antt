use Rattle.aig_cnf.proofs.AnyState.{IsStarted}
use Rattle.aig_cnf.proofs.any_state.start_in_any_state.Given as goal

abbrev pub invariant-loop-position : goal.invariant-loop-position
invariant-loop-position l = IsStarted l.position l.fn.circuit l.circuit
