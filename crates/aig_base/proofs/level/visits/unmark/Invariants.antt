use Rattle.std.proofs.Common.{ℕ}
use Rattle.aig_base.specs.state.Descent.{IsMet}
use Rattle.aig_base.specs.state.Visits.{IsFrom}
use Rattle.aig_base.proofs.level.visits.unmark.Given as goal

abbrev pub invariant-loop-variable : goal.invariant-loop-variable
invariant-loop-variable l = (v : ℕ) → IsMet l.met v → IsFrom l.list l.variable-index v
