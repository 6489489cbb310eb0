use Rattle.std.proofs.Common.{sym, subst, arith}
use Rattle.aig_bench.proofs.queues.Slots.{SlotsTo, slots_none, slots_more, all_sides}
use Rattle.aig_bench.proofs.propagate.waiting.Waiting.of.Goals as goal

pub loop-variable-init : goal.loop-variable-init
loop-variable-init c =
    subst (SlotsTo c.args.circuit.now c.args.levels.now 0) (sym c.in_ok-slots.ensures.items)
    (slots_none c.args.circuit.now c.args.levels.now)

pub loop-variable-preserved : goal.loop-variable-preserved
loop-variable-preserved c =
    let s = c.slot_of.ensures in
    rw c.in_ok-push.ensures.items
    (slots_more c.args.circuit.now c.args.levels.now c.loop-variable.variable c.loop-variable.slots.items c.slot_of.result
    (omega (arith, c.loop-variable-test.true, c.max_var-variable-end.ensures.value, c.requires.size)) c.loop-variable.invariant s.next
    s.level s.first s.second)

pub returns-clause-sides : goal.returns-clause-sides
returns-clause-sides c =
    all_sides c.args.circuit.now c.args.levels.now c.loop-variable.variable c.loop-variable.slots.items c.loop-variable.invariant
    c.facts.ensures.sound
    (omega (arith, c.loop-variable-test.false, c.loop-variable.auto.variable-end, c.max_var-variable-end.ensures.value))
