use Rattle.std.proofs.Common.{◌≡◌, ◌<◌, ℕ, [], length, get_or}
use Rattle.aig_base.specs.Renumbered.{renumbered_variable}
use Rattle.aig_base.proofs.renumbering.table.source_table.Given as goal

abbrev pub invariant-loop-variable : goal.invariant-loop-variable
invariant-loop-variable l = record {
  size : length l.table.items ≡ l.variable;
  each : (v : ℕ) → v < l.variable → get_or l.table.items v 0 ≡ renumbered_variable l.circuit [] v;
}
