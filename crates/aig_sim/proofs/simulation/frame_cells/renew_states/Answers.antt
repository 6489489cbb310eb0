use Rattle.std.proofs.Common.{◌≡◌, Some, slice_get, arith}
use Rattle.aig_base.proofs.circuits.Circuits.{next_in_range}
use Rattle.aig_base.proofs.lists.Items.{item_at}
use Rattle.aig_sim.proofs.simulation.frame_cells.renew_states.Goals as goal

pub code_in-requires : goal.code_in-requires
code_in-requires c =
    let raw = c.args.circuit.now in
    let at : slice_get raw.latches c.loop-position.position ≡ Some c.latch-item.result =
    item_at _ _ c.loop-position.position c.latch-item.result c.latches-latch-items.ensures c.loop-position-test.true
    c.latch-item.is in
    let fits = next_in_range raw c.facts.ensures.sound c.loop-position.position c.latch-item.result at in
    omega (arith, c.requires.cells)
