use Rattle.std.proofs.Common.{◌≡◌, ◌<◌, ℕ, List, Some, slice_get, slice_set, length, refl, ap, arith}
use Rattle.aig_parts.specs.declared.ternary.Tern.{Tern}
use Rattle.aig_parts.specs.declared.latch.Latch.{Latch}
use Rattle.aig_parts.specs.Literal.{variable}
use Rattle.aig_values.specs.state.Frame.{AreStates, Holds}
use Rattle.aig_base.proofs.circuits.Circuits.{latch_in_range}
use Rattle.aig_values.proofs.Evaluation.{items_more, items_all, latch_value, put_value}
use Rattle.aig_base.proofs.lists.Items.{item_at}
use Rattle.aig_sim.proofs.simulation.frame_cells.put_latches.Goals as goal

pub bounds-cells-var : goal.bounds-cells-var
bounds-cells-var c =
    let raw = c.args.circuit.now in
    let at : slice_get raw.latches c.loop-position.position ≡ Some c.latch-item.result =
    item_at _ _ c.loop-position.position c.latch-item.result c.latches-latch-items.ensures c.loop-position-test.true
    c.latch-item.is in
    let fits = latch_in_range raw c.facts.ensures.sound c.loop-position.position c.latch-item.result at in
    omega (arith, c.var.ensures, c.requires.cells)

pub loop-position-preserved : goal.loop-position-preserved
loop-position-preserved c =
    let raw = c.args.circuit.now in
    let states = c.args.states.now in
    let i = c.loop-position.position in
    let x = c.latch-item.result in
    let cells = c.loop-position.cells in
    let w = c.index-states-position.result in
    let at : slice_get raw.latches i
    ≡ Some x = item_at _ _ i x c.latches-latch-items.ensures c.loop-position-test.true c.latch-item.is in
    let lt : i < length states = omega (arith, c.requires.states, ap length c.latches-latch-items.ensures) in
    let fits = latch_in_range raw c.facts.ensures.sound i x at in
    let wide : c.var.result < length cells = omega (arith, c.var.ensures, c.requires.cells) in
    let value : slice_get states i ≡ Some w =
    item_at states states i w refl lt c.index-states-position.is in
    let put = λ (start : List Tern) (rows : List (List Tern)) (t : ℕ) (h : AreStates raw start rows t states).
    put_value raw start rows t c.args.cells.now cells c.var.result (variable x.lit) w c.var.ensures wide
    (latch_value raw start rows t states i x w c.facts.ensures.sound h at value)
    (c.loop-position.invariant.renews start rows t h) in
    record {
      renews = λ start rows t h. (put start rows t h).0;
      latches = λ start rows t h. items_more
          (λ k. Holds raw start rows t (slice_set cells c.var.result w) (variable k.lit)) raw.latches i x at
          (λ j k below is. (put start rows t h).1.keeps (variable k.lit)
          (c.loop-position.invariant.latches start rows t h j k below is)) (put start rows t h).2;
    }

pub returns-clause-latches : goal.returns-clause-latches
returns-clause-latches c =
    λ start rows t h. items_all
    (λ (k : Latch). Holds c.args.circuit.now start rows t c.loop-position.cells (variable k.lit))
    c.args.circuit.now.latches c.loop-position.position
    (rw (← c.latches-latch-items.ensures) (omega (arith, c.loop-position-test.false)))
    (c.loop-position.invariant.latches start rows t h)
