use Rattle.std.proofs.Common.{ℕ, ◌<◌}
use Rattle.aig_bench.specs.BenchState.{HasValue}
use Rattle.aig_shell.proofs.session.Session.first_at.Given as goal

abbrev pub invariant-loop-frame : goal.invariant-loop-frame
invariant-loop-frame l = (u : ℕ) → u < l.frame → HasValue l.self.run.bench.pair u l.literal l.value → ⊥
