use Rattle.std.proofs.Common.{◌∙◌, ℕ, get_or, subst}
use Rattle.std.proofs.lemmas.List.{get_or_default}
use borrow.Author.Count.{below_more}
use Rattle.aig_base.specs.state.TriedLevels.{IsStep}
use Rattle.aig_base.proofs.check.tried_levels.are_steps.Goals as goal

pub loop-gate-preserved : goal.loop-gate-preserved
loop-gate-preserved c = λ k d lt.
    below_more (λ (j : ℕ). IsStep c.args.levels.now (get_or c.args.gates.now j d)) c.loop-gate.gate-index
    (λ j below. c.loop-gate.invariant j d below)
    (subst (IsStep c.args.levels.now)
    (c.gate-item.is ∙ get_or_default c.args.gates.now c.loop-gate.gate-index _ d c.loop-gate-test.true)
    (c.is_step.ensures.0 c.if-not-is_step.false)) k lt
