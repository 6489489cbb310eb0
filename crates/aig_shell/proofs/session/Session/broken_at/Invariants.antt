use Rattle.std.proofs.Common.{◌≡◌, ℕ, ◌<◌, Some, slice_get}
use Rattle.aig_parts.specs.declared.ternary.Tern.TheVariants.{One}
use Rattle.aig_bench.specs.BenchState.{HasValue}
use Rattle.aig_shell.proofs.session.Session.broken_at.Given as goal

abbrev pub invariant-loop-position : goal.invariant-loop-position
invariant-loop-position l =
    (k literal : ℕ) → k < l.position → slice_get l.self.run.bench.pair.circuit.constraints k ≡ Some literal
    → HasValue l.self.run.bench.pair l.frame literal One
