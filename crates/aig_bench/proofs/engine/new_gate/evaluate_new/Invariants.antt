use Rattle.std.proofs.Common.{◌≡◌, ℕ, ◌+◌, ◌<◌, ◌≤◌, length, slice_set}
use Rattle.aig_parts.specs.Literal.{variable}
use Rattle.aig_values.specs.Cells.{gate_value}
use Rattle.aig_values.specs.InputRows.{row_at}
use Rattle.aig_bench.proofs.engine.new_gate.evaluate_new.Given as goal

abbrev pub invariant-loop-frame : goal.invariant-loop-frame
invariant-loop-frame g l = record {
  frames : length (g.G.Grid.cells l.grid) ≡ length (g.G.Grid.cells l.initial.grid);
  done : (t : ℕ) → t < l.frame → row_at (g.G.Grid.cells l.grid) t
      ≡ slice_set (row_at (g.G.Grid.cells l.initial.grid) t) (variable l.gate.lhs)
      (gate_value (row_at (g.G.Grid.cells l.initial.grid) t) l.gate);
  rest : (t : ℕ) → l.frame ≤ t → row_at (g.G.Grid.cells l.grid) t ≡ row_at (g.G.Grid.cells l.initial.grid) t;
  flags : g.G.Grid.gate_flags l.grid ≡ g.G.Grid.gate_flags l.initial.grid;
  count : g.G.Grid.evaluations l.grid ≡ g.G.Grid.evaluations l.initial.grid + l.frame;
}
