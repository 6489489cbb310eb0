use Rattle.std.proofs.Common.{List, All, sym, subst}
use Rattle.aig_parts.specs.declared.gate.Gate.{Gate}
use Rattle.aig_values.specs.Cells.{HasCells}
use Rattle.aig_bench.specs.declared.engine.sweep_order.Way.{Way}
use Rattle.aig_bench.specs.state.SweepOrder.{AreTaken}
use Rattle.aig_bench.proofs.new_frames.Swept.{have_cells}
use Rattle.aig_bench.proofs.engine.sweep_order.Order.sweep.Goals as goal

pub sweep-requires-clause-gates : goal.sweep-requires-clause-gates
sweep-requires-clause-gates g c =
    let raw = c.args.circuit.now in
    let flags = g.G.Grid.gate_flags c.args.grid.now in
    let order = subst (λ (w : Way). AreTaken raw w c.args.self.now.gates.items) c.in-Standing.is c.requires.orders in
    subst (All (HasCells flags)) (sym {A = List Gate} c.gates.ensures)
    (have_cells raw flags raw.gates c.facts.ensures c.requires.flags order)

pub sweep-requires-in-Listed-clause-gates : goal.sweep-requires-in-Listed-clause-gates
sweep-requires-in-Listed-clause-gates g c =
    let raw = c.args.circuit.now in
    let flags = g.G.Grid.gate_flags c.args.grid.now in
    let gates = c.args.self.now.gates.items in
    let full = subst (λ (w : Way). AreTaken raw w gates) c.in-Listed.is c.requires.orders in
    subst (All (HasCells flags)) (sym {A = List Gate} c.deref.ensures.value)
    (have_cells raw flags gates c.facts.ensures c.requires.flags full.order)
