use Rattle.std.proofs.Common.{ℕ, ◌+◌, ◌<◌, List, length, get_or, drop, ap, subst, ◌∙◌, arith, rules}
use Rattle.std.proofs.lemmas.Grind.{get_or_default_zero}
use Rattle.std.proofs.lemmas.List.{drop_more}
use Rattle.aig_parts.specs.Literal.{variable}
use Rattle.aig_sat.proofs.checking.HintLemmas.{IsLeftToShow, found_for, looked_by, walk_on, walks_then}
use Rattle.aig_sat.proofs.checking.PropagationLemmas.{contradicts_then, steps}
use Rattle.aig_sat.proofs.checker.propagator.Propagator.walk.Goals as goal

pub returns-in_err-look_at-clause-conflict : goal.returns-in_err-look_at-clause-conflict
returns-in_err-look_at-clause-conflict c = record {
  propagates = steps _ _ _ c.loop-hint.invariant.propagates c.look_at.ensures.conflict.propagates;
  contradicts = search rules;
}

pub returns-then-branch-clause-conflict : goal.returns-then-branch-clause-conflict
returns-then-branch-clause-conflict c = record {
  propagates = steps _ _ _ c.loop-hint.invariant.propagates c.look_at.ensures.conflict.propagates;
  contradicts = λ _.
      contradicts_then c.args.self.now c.loop-hint.self c.loop-hint.invariant.propagates
      (c.in_ok-look_at.ensures.conflict.contradicts c.if-branch.true);
}

pub loop-hint-preserved : goal.loop-hint-preserved
loop-hint-preserved c =
    let i = c.loop-hint.hint-index in
    let inside : i < length c.args.hints.now = omega (arith, c.loop-hint-test.true) in
    let hint = get_or c.args.hints.now i 0 in
    record {
      propagates = steps _ _ _ c.loop-hint.invariant.propagates c.look_at.ensures.conflict.propagates;
      walks = walks_then _ _ _ c.loop-hint.invariant.walks c.look_at.ensures.walks;
      shown = λ truths known shows.
          walk_on c.args.self.now c.loop-hint.self c.look_at.new.self c.loop-hint.invariant.walks hint
          (drop (i + 1) c.args.hints.now) c.place-place.result
          (found_for _ _ _ _ (c.id_of.ensures ∙ ap (λ x. variable x + 1) (c.hint-item.is ∙ get_or_default_zero _ _ _ inside)) c.place-place.ensures)
          (looked_by _ _ _ _ c.look_at.ensures.walks c.look_at.ensures.looks c.in_ok-look_at.ensures.left c.if-branch.false)
          (subst (λ (x : List ℕ). IsLeftToShow c.args.self.now c.loop-hint.self x) (drop_more c.args.hints.now i 0 inside)
          (c.loop-hint.invariant.shown truths known shows));
    }
