use Rattle.std.proofs.Common.{◌≡◌, ℕ, ◌+◌, ◌*◌, All, Some, length, slice_get}
use Rattle.std.specs.Global.{Vec}
use Rattle.aig_parts.specs.declared.ternary.Tern.{Tern}
use Rattle.aig_base.specs.Sections.{IsDefined}
use Rattle.aig_bench.specs.BenchState.{HasValue}
use Rattle.aig_shell.proofs.session.run_kept.FirstRun.of.Given as goal

abbrev pub invariant-loop-frame : goal.invariant-loop-frame
invariant-loop-frame l = record {
  size : length l.rows.items ≡ l.frame;
  widths : All (λ (row : Vec Tern). length row.items ≡ l.bench.pair.circuit.max_var + 1) l.rows.items;
  values : (t v : ℕ) (row : Vec Tern) (w : Tern) → IsDefined l.bench.pair.circuit v → slice_get l.rows.items t ≡ Some row
      → slice_get row.items v ≡ Some w → HasValue l.bench.pair t (2 * v) w;
}
