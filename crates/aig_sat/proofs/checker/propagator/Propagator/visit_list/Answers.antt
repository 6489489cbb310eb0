use Rattle.std.proofs.Common.{subst, arith}
use Rattle.std.proofs.lemmas.Grind.{common_steps}
use Rattle.aig_sat.specs.declared.checker.propagator.Visit.{Visit}
use Rattle.aig_sat.specs.checker.Agreement.{Contradicts}
use Rattle.aig_sat.specs.checker.Visits.{OnConflict}
use Rattle.aig_sat.proofs.checking.PropagationLemmas.{contradicts_then, steps}
use Rattle.aig_sat.proofs.checker.propagator.Propagator.visit_list.Goals as goal
use Rattle.aig_sat.proofs.checker.propagator.Propagator.visit_list.Goals.{in-Ok-Stays, in-Ok-Leaves}

pub returns-in-Ok-Conflict : goal.returns-in-Ok-Conflict
returns-in-Ok-Conflict c = record {
  conflict = record {
    propagates = steps _ _ _ c.loop-place.invariant.propagates c.visit.ensures.propagates;
    contradicts = λ _.
        contradicts_then c.args.self.now c.loop-place.self c.loop-place.invariant.propagates
        (subst (λ (x : Visit). OnConflict (Contradicts c.loop-place.self) x) c.in-Ok-Conflict.field-0-is
        c.in-Ok-Conflict.ensures.conflict);
  };
}

pub returns-in-Err : goal.returns-in-Err
returns-in-Err c = record {
  conflict = record {
    propagates = steps _ _ _ c.loop-place.invariant.propagates c.visit.ensures.propagates;
    contradicts = tt;
  };
}

pub loop-place-preserved : goal.loop-place-preserved
loop-place-preserved c = record {
  propagates = steps _ _ _ c.loop-place.invariant.propagates c.visit.ensures.propagates;
  len = elim c.match-visit-2.branch [ in-Ok-Stays w ↦ grind (arith, common_steps) | in-Ok-Leaves w ↦ grind (arith, common_steps) ];
  kept = elim c.match-visit-2.branch [ in-Ok-Stays w ↦ omega arith | in-Ok-Leaves w ↦ omega arith ];
}
