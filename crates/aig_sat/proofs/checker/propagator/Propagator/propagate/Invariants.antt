use Rattle.aig_sat.specs.checker.Agreement.{Propagates}
use Rattle.aig_sat.proofs.checker.propagator.Propagator.propagate.Given as goal

abbrev pub invariant-loop-place : goal.invariant-loop-place
invariant-loop-place l = Propagates l.initial.self l.self
