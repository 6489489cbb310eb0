use Rattle.std.proofs.Common.{◌≡◌}
use Rattle.aig_bench.specs.state.Current.{AreGateFlags, AreRows}
use Rattle.aig_bench.proofs.engine.new_grid.add_rows.Given as goal

abbrev pub invariant-loop : goal.invariant-loop
invariant-loop g l = record {
  flags : AreGateFlags l.driven.circuit (g.G.Grid.gate_flags l.grid);
  rows : AreRows l.driven.circuit l.counter (g.G.Grid.cells l.grid);
  count : g.G.Grid.evaluations l.grid ≡ g.G.Grid.evaluations l.fn.grid;
}
