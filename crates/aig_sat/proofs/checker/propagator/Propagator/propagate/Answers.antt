use Rattle.std.proofs.Common.{rules}
use Rattle.aig_sat.proofs.checking.PropagationLemmas.{contradicts_then, steps}
use Rattle.aig_sat.proofs.checker.propagator.Propagator.propagate.Goals as goal

pub returns-in_err-visit_all : goal.returns-in_err-visit_all
returns-in_err-visit_all c = record {
  conflict = record {
    propagates = steps _ _ _ c.loop-place.invariant c.visit_all.ensures.conflict.propagates;
    contradicts = search rules;
  };
}

pub returns-then-branch : goal.returns-then-branch
returns-then-branch c = record {
  conflict = record {
    propagates = steps _ _ _ c.loop-place.invariant c.visit_all.ensures.conflict.propagates;
    contradicts = λ _.
        contradicts_then c.args.self.now c.loop-place.self c.loop-place.invariant
        (c.in_ok-visit_all.ensures.conflict.contradicts c.if-branch.true);
  };
}

pub loop-place-preserved : goal.loop-place-preserved
loop-place-preserved c = steps _ _ _ c.loop-place.invariant c.visit_all.ensures.conflict.propagates
