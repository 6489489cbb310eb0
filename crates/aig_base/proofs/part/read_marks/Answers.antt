use Rattle.std.proofs.Common.{◌+◌, ◌<◌, [], Some, false, length, replicate, sym, ap, ◌∙◌, arith}
use Rattle.std.proofs.lemmas.List.{length-replicate, nil_from_length}
use Rattle.std.proofs.lemmas.Option.{slice_get-get_or}
use Rattle.aig_parts.specs.Literal.{variable}
use Rattle.aig_base.proofs.checks.ReadWalks.{constraint_below, has_all, has_begun, has_more, has_next}
use Rattle.aig_base.proofs.circuits.Gates.{defined_in_range}
use Rattle.aig_base.proofs.part.read_marks.Goals as goal

pub meet-requires : goal.meet-requires
meet-requires c =
    let low = defined_in_range c.args.circuit.now c.facts.ensures.sound _ c.requires in
    omega (arith, low, c.var.ensures, c.max_var.ensures.value, ap length c.in_ok-walk.ensures.met, length-replicate (c.max_var.result + 1) false)

pub loop-constraint-init : goal.loop-constraint-init
loop-constraint-init c =
    let low = defined_in_range c.args.circuit.now c.facts.ensures.sound _ c.requires in
    has_begun c.args.circuit.now c.facts.ensures c.args.bad _ _ _ _
    (c.in_ok-walk.ensures.met ∙ ap (λ n. replicate (n + 1) false) c.max_var.ensures.value) c.in_ok-walk.ensures.pending
    (omega (arith, low, c.max_var.ensures.value, ap length c.in_ok-walk.ensures.met, length-replicate (c.max_var.result + 1) false))
    (rw c.var.ensures at c.in_ok-meet.ensures)

pub meet-requires-in-loop-constraint : goal.meet-requires-in-loop-constraint
meet-requires-in-loop-constraint c =
    let lt = rw c.constraints-constraint-items.ensures at c.loop-constraint-test.true in
    let item = rw c.constraints-constraint-items.ensures at c.constraint-item.is in
    let low = constraint_below c.args.circuit.now c.facts.ensures c.args.bad c.loop-constraint.constraint-index c.constraint-item.result
    (slice_get-get_or c.args.circuit.now.constraints c.loop-constraint.constraint-index c.constraint-item.result lt ∙ ap Some (sym item)) in
    omega (arith, low, c.var-in-loop-constraint.ensures, c.loop-constraint.invariant.reading.size)

pub loop-constraint-preserved : goal.loop-constraint-preserved
loop-constraint-preserved c =
    let lt = rw c.constraints-constraint-items.ensures at c.loop-constraint-test.true in
    let item = rw c.constraints-constraint-items.ensures at c.constraint-item.is in
    has_more c.args.circuit.now c.facts.ensures c.args.bad c.loop-constraint.constraint-index c.constraint-item.result _ _ _ _
    (slice_get-get_or c.args.circuit.now.constraints c.loop-constraint.constraint-index c.constraint-item.result lt ∙ ap Some (sym item))
    (rw c.var-in-loop-constraint.ensures at c.in_ok-meet-2.ensures) c.loop-constraint.invariant

pub loop-read-preserved : goal.loop-read-preserved
loop-read-preserved c =
    has_next c.args.circuit.now c.facts.ensures c.args.bad _ _ _ _ _ _ c.in-Some.ensures.items
    (c.in_ok-meet_read.ensures.reading c.args.bad) c.in_ok-meet_read.ensures.kept c.loop-read.invariant

pub returns : goal.returns
returns c =
    has_all c.args.circuit.now c.facts.ensures c.args.bad _ _
    (nil_from_length _ (let none = c.in_default.ensures.cases.0 in omega arith)) c.loop-read.invariant
