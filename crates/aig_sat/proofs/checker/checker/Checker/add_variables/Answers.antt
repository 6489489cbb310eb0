use Rattle.std.proofs.Common.{refl, ap, ◌/◌, ◌∙◌, arith}
use Rattle.aig_sat.proofs.checking.NumberLemmas.{keeps_then}
use Rattle.aig_sat.proofs.checker.checker.Checker.add_variables.Goals as goal

pub loop-init : goal.loop-init
loop-init c = record {
  adds = record {
    holding = λ v h. h;
    numbered = record { hinted = refl; variables = omega arith; refuted = λ conflict. conflict; others = λ n it ne h. h };
    next = refl;
  };
  count = omega (arith, ap (λ n. n / 2) c.len-counter.ensures);
}

pub loop-preserved : goal.loop-preserved
loop-preserved c = record {
  adds = record {
    holding = λ v h. c.add_variable.ensures.adds.holding v (c.loop.invariant.adds.holding v h);
    numbered = keeps_then _ _ _ c.loop.invariant.adds.numbered c.add_variable.ensures.adds.numbered;
    next = c.add_variable.ensures.adds.next ∙ c.loop.invariant.adds.next;
  };
  count = omega (arith, c.loop.invariant.count, c.in_ok-add_variable.ensures.variables);
}

pub returns-in_err-add_variable-clause-adds : goal.returns-in_err-add_variable-clause-adds
returns-in_err-add_variable-clause-adds c = record {
  holding = λ v h. c.in_err-add_variable.ensures.adds.holding v (c.loop.invariant.adds.holding v h);
  numbered = keeps_then _ _ _ c.loop.invariant.adds.numbered c.in_err-add_variable.ensures.adds.numbered;
  next = c.in_err-add_variable.ensures.adds.next ∙ c.loop.invariant.adds.next;
}

pub returns-clause-adds : goal.returns-clause-adds
returns-clause-adds c = c.loop.invariant.adds

pub returns-clause-variables : goal.returns-clause-variables
returns-clause-variables c = omega (arith, c.loop.invariant.count, c.loop-test.false)
