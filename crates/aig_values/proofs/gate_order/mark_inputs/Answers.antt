use Rattle.std.proofs.Common.{◌≡◌, ◌∙◌, Some, List, ℕ, slice_get, length, map, ap, subst, arith}
use Rattle.std.proofs.lemmas.List.{length-set, take_all}
use Rattle.aig_parts.specs.Literal.{variable}
use Rattle.aig_base.proofs.circuits.Circuits.{input_in_range}
use Rattle.aig_values.specs.GateOrder.{AddsMarks}
use Rattle.aig_base.proofs.lists.Items.{item_at}
use Rattle.aig_values.proofs.GateOrders.{adds_none, adds_more}
use Rattle.aig_values.proofs.gate_order.mark_inputs.Goals as goal

pub loop-input-init : goal.loop-input-init
loop-input-init c = record { size = c.requires.size; added = adds_none c.args.marks.now }

pub loop-input-preserved : goal.loop-input-preserved
loop-input-preserved c =
    let raw = c.args.circuit.now in
    let i = c.loop-input.input-index in
    let l = c.input-item.result in
    let at : slice_get raw.inputs i ≡ Some l =
    item_at _ _ i l c.inputs-input-items.ensures c.loop-input-test.true c.input-item.is in
    let fits = input_in_range raw c.facts.ensures.sound i l at in
    record {
      size = length-set _ _ _ ∙ c.loop-input.invariant.size;
      added = adds_more variable raw.inputs i l c.var.result c.args.marks.now c.loop-input.marks at c.var.ensures
          (omega (arith, c.var.ensures, c.loop-input.invariant.size)) c.loop-input.invariant.added;
    }

pub returns : goal.returns
returns c =
    let raw = c.args.circuit.now in
    let whole = take_all c.loop-input.input-index raw.inputs
    (omega (arith, c.loop-input-test.false, ap length c.inputs-input-items.ensures)) in
    subst (λ (ls : List ℕ). AddsMarks (map variable ls) c.args.marks.now c.loop-input.marks) whole
    c.loop-input.invariant.added
