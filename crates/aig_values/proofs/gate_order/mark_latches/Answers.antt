use Rattle.std.proofs.Common.{◌≡◌, ◌∙◌, Some, List, slice_get, length, map, ap, subst, arith}
use Rattle.std.proofs.lemmas.List.{length-set, take_all}
use Rattle.aig_parts.specs.Literal.{variable}
use Rattle.aig_parts.specs.declared.latch.Latch.{Latch}
use Rattle.aig_base.proofs.circuits.Circuits.{latch_in_range}
use Rattle.aig_values.specs.GateOrder.{AddsMarks}
use Rattle.aig_base.proofs.lists.Items.{item_at}
use Rattle.aig_values.proofs.GateOrders.{adds_none, adds_more}
use Rattle.aig_values.proofs.gate_order.mark_latches.Goals as goal

pub loop-latch-init : goal.loop-latch-init
loop-latch-init c = record { size = c.requires.size; added = adds_none c.args.marks.now }

pub bounds-marks-var : goal.bounds-marks-var
bounds-marks-var c =
    let raw = c.args.circuit.now in
    let i = c.loop-latch.latch-index in
    let l = c.latch-item.result in
    let at : slice_get raw.latches i ≡ Some l =
    item_at _ _ i l c.latches-latch-items.ensures c.loop-latch-test.true c.latch-item.is in
    let fits = latch_in_range raw c.facts.ensures.sound i l at in
    omega (arith, c.var.ensures, c.loop-latch.invariant.size)

pub loop-latch-preserved : goal.loop-latch-preserved
loop-latch-preserved c =
    let raw = c.args.circuit.now in
    let i = c.loop-latch.latch-index in
    let l = c.latch-item.result in
    let at : slice_get raw.latches i ≡ Some l =
    item_at _ _ i l c.latches-latch-items.ensures c.loop-latch-test.true c.latch-item.is in
    let fits = latch_in_range raw c.facts.ensures.sound i l at in
    record {
      size = length-set _ _ _ ∙ c.loop-latch.invariant.size;
      added = adds_more (λ (x : Latch). variable x.lit) raw.latches i l c.var.result c.args.marks.now c.loop-latch.marks
          at c.var.ensures (omega (arith, c.var.ensures, c.loop-latch.invariant.size)) c.loop-latch.invariant.added;
    }

pub returns : goal.returns
returns c =
    let raw = c.args.circuit.now in
    let whole = take_all c.loop-latch.latch-index raw.latches
    (omega (arith, c.loop-latch-test.false, ap length c.latches-latch-items.ensures)) in
    subst (λ (xs : List Latch). AddsMarks (map (λ x. variable x.lit) xs) c.args.marks.now c.loop-latch.marks) whole
    c.loop-latch.invariant.added
