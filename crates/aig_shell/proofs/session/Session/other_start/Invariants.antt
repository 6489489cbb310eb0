use Rattle.std.proofs.Common.{ℕ, ◌<◌}
use Rattle.aig_base.specs.Value.{start_of}
use Rattle.aig_sim.specs.Verdict.{StartsWrong}
use Rattle.aig_shell.specs.Session.{own_circuit}
use Rattle.aig_shell.proofs.session.Session.other_start.Given as goal

abbrev pub invariant-loop-place : goal.invariant-loop-place
invariant-loop-place l = (q : ℕ) → q < l.place → StartsWrong (own_circuit l.self) (start_of l.self.run.bench.pair.circuit) q → ⊥
