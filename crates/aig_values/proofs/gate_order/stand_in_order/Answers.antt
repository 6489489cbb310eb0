use Rattle.std.proofs.Common.{◌≡◌, ◌+◌, ◌∙◌, Bool, List, map, true, slice_set, sym, subst, arith}
use Rattle.std.proofs.lemmas.List.{take_at}
use Rattle.aig_parts.specs.Literal.{variable}
use Rattle.aig_base.specs.Grounded.{IsSource}
use Rattle.aig_values.specs.GateOrder.{AreMarked, AddsMarks}
use Rattle.aig_values.proofs.GateOrders.{first_marked, sources_marked}
use Rattle.aig_values.proofs.gate_order.stand_in_order.Goals as goal

pub mark_gates-requires-clause-sources : goal.mark_gates-requires-clause-sources
mark_gates-requires-clause-sources c =
    let raw = c.args.circuit.now in
    let first = subst (λ (xs : List Bool). AreMarked (λ v. v ≡ 0) xs) (sym c.deref_mut.ensures.value)
    (subst (λ (xs : List Bool). AreMarked (λ v. v ≡ 0) (slice_set xs 0 true)) (sym c.in_ok-marks.ensures)
    (first_marked (c.max_var.result + 1) (omega arith))) in
    let inputs : c.deref_mut-2.result.now ≡ c.mark_inputs.new.marks =
    c.deref_mut-2.ensures.value ∙ take_at c.mark_inputs.new.marks _ c.in_ok-marks.marks.len
    (omega (arith, c.mark_inputs.auto.marks, c.deref_mut.ensures.len)) in
    let latches : c.deref_mut-3.result.now ≡ c.mark_latches.new.marks =
    c.deref_mut-3.ensures.value ∙ take_at c.mark_latches.new.marks _ c.in_ok-marks.marks.len
    (omega (arith, c.mark_latches.auto.marks, c.deref_mut-2.ensures.len)) in
    subst (λ (xs : List Bool). AreMarked (IsSource raw) xs) (sym latches)
    (sources_marked raw c.deref_mut.result.now c.mark_inputs.new.marks c.mark_latches.new.marks first c.mark_inputs.ensures
    (subst (λ (xs : List Bool). AddsMarks (map (λ x. variable x.lit) raw.latches) xs c.mark_latches.new.marks) inputs
    c.mark_latches.ensures))
