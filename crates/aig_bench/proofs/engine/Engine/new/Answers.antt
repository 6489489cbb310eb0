use Rattle.aig_bench.proofs.engine.Engine.new.Goals as goal

pub invariant_of-engine : goal.invariant_of-engine
invariant_of-engine g c = record {
  work = c.in_ok-pending.ensures.work (g.G.Grid.gate_flags c.in_ok-grid.grid) (g.G.Grid.cells c.in_ok-grid.grid) c.in_ok-grid.ensures.laid_out;
  lists = c.in_ok-pending.ensures.lists;
  orders = c.in_ok-order.ensures.orders;
}
