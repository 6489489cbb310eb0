use Rattle.std.proofs.Common.{◌≡◌, length, Some, slice_get, ap, ◌∙◌, subst, arith}
use Rattle.aig_parts.specs.declared.raw.Raw.{Raw}
use Rattle.aig_base.specs.Runs.{Allows}
use Rattle.aig_sim.specs.Verdict.{StartsWrong}
use Rattle.aig_base.proofs.lists.Items.{item_at}
use Rattle.aig_sim.proofs.VerdictLemmas.{right_more, starts_right, no_latch_after}
use Rattle.aig_sim.proofs.witness.wrong_start.Goals as goal

pub loop-position-preserved : goal.loop-position-preserved
loop-position-preserved c =
    let m = c.args.machine.now in
    let i = c.loop-position.position in
    let same = c.latches-latch-items.ensures ∙ ap (λ (r : Raw). r.latches) c.circuit.ensures.circuit in
    let at : slice_get m.circuit.latches i ≡ Some c.latch-item.result =
    item_at _ _ i c.latch-item.result same c.loop-position-test.true c.latch-item.is in
    let states = c.states-states.result.now in
    let w = c.index-states-position.result in
    let value : slice_get m.states i ≡ Some w =
    item_at states m.states i w c.states-states.ensures.states
    (omega (arith, c.states-states.ensures.length, ap length c.states-states.ensures.states, ap length same, c.loop-position-test.true))
    c.index-states-position.is in
    right_more (StartsWrong m.circuit m.states) i c.loop-position.invariant
    (starts_right m.circuit m.states i c.latch-item.result w at value
    (subst (Allows c.latch-item.result) c.value.ensures
    (c.is_allowed.ensures.0 c.if-not-is_allowed.false)))

pub returns-clause-none : goal.returns-clause-none
returns-clause-none c =
    let m = c.args.machine.now in
    let same = c.latches-latch-items.ensures ∙ ap (λ (r : Raw). r.latches) c.circuit.ensures.circuit in
    λ q. no_latch_after m.circuit m.states c.loop-position.position q
    (omega (arith, c.loop-position-test.false, ap length same)) c.loop-position.invariant
