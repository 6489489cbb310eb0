use Rattle.std.proofs.Common.{ℕ, ◌<◌, ◌≤◌}
use Rattle.aig_reduce.specs.state.Looks.{AreOne}
use Rattle.aig_reduce.proofs.looks.reaches_from.Given as goal

abbrev pub invariant-loop-frame : goal.invariant-loop-frame
invariant-loop-frame g l = (u : ℕ) → l.first ≤ u → u < l.frame → AreOne l.bench.pair u
