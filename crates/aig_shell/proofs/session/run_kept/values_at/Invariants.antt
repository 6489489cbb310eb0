use Rattle.std.proofs.Common.{◌≡◌, ℕ, ◌+◌, ◌*◌, ◌≤◌, Some, length, slice_get}
use Rattle.aig_parts.specs.declared.ternary.Tern.{Tern}
use Rattle.aig_base.specs.Sections.{IsDefined}
use Rattle.aig_bench.specs.BenchState.{HasValue}
use Rattle.aig_shell.proofs.session.run_kept.values_at.Given as goal

abbrev pub invariant-loop-variable : goal.invariant-loop-variable
invariant-loop-variable l = record {
  size : length l.values.items ≡ l.variable;
  within : l.variable ≤ l.variable-end + 1;
  values : (v : ℕ) (w : Tern) → IsDefined l.bench.pair.circuit v → slice_get l.values.items v ≡ Some w → HasValue l.bench.pair l.frame (2 * v) w;
}
