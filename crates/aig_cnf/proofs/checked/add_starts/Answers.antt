use Rattle.std.proofs.Common.{◌∙◌, sym, ap}
use Rattle.std.specs.List.{flat_map}
use Rattle.std.proofs.lemmas.List.{nil_from_length}
use Rattle.aig_cnf.specs.Formula.{all_but_last, implies}
use Rattle.aig_cnf.proofs.AddedLemmas.{adds_none, adds_more, adds_same, adds_some}
use Rattle.aig_cnf.proofs.FormulaText.{all_but_last-append, starts_of_none}
use Rattle.aig_cnf.proofs.NumberedLemmas.{err_on_ok, numbers_all, numbers_more, numbers_none, numbers_same}
use Rattle.aig_cnf.proofs.checked.add_starts.Goals as goal

pub returns-in_default-clause-adds : goal.returns-in_default-clause-adds
returns-in_default-clause-adds c = adds_same (adds_none _) (starts_of_none c.args.starts.now c.args.goals.now (nil_from_length c.args.goals.now c.in_default.ensures.cases))

pub loop-bad-init : goal.loop-bad-init
loop-bad-init c = (adds_none _, numbers_none _)

pub loop-bad-preserved : goal.loop-bad-preserved
loop-bad-preserved c = (
  adds_more (implies c.args.starts.now) c.in-Some.earlier.now c.loop-bad.bad-index c.bad-item.result
      c.loop-bad.invariant.0 c.loop-bad-test.true
      (adds_same c.in_ok-add_implied.ensures.adds (ap (implies c.args.starts.now) c.bad-item.is)),
  numbers_more (implies c.args.starts.now) c.in-Some.earlier.now c.loop-bad.bad-index c.bad-item.result c.loop-bad.invariant.1
      c.loop-bad-test.true (numbers_same c.in_ok-add_implied.ensures.numbered (ap (implies c.args.starts.now) c.bad-item.is)),
)

pub returns-in_err-add_implied-clause-adds : goal.returns-in_err-add_implied-clause-adds
returns-in_err-add_implied-clause-adds c =
    adds_same (adds_some (implies c.args.starts.now) c.in-Some.earlier.now _
    (adds_more (implies c.args.starts.now) c.in-Some.earlier.now c.loop-bad.bad-index c.bad-item.result
    c.loop-bad.invariant.0 c.loop-bad-test.true
    (adds_same c.in_err-add_implied.ensures.adds (ap (implies c.args.starts.now) c.bad-item.is))))
    (ap (flat_map (implies c.args.starts.now))
    (sym (ap all_but_last c.in-Some.ensures.cases.0 ∙ all_but_last-append c.in-Some.earlier.now _)))

pub returns-clause-adds : goal.returns-clause-adds
returns-clause-adds c =
    adds_same (adds_some (implies c.args.starts.now) c.in-Some.earlier.now _ c.loop-bad.invariant.0)
    (ap (flat_map (implies c.args.starts.now))
    (sym (ap all_but_last c.in-Some.ensures.cases.0 ∙ all_but_last-append c.in-Some.earlier.now _)))

pub returns-in_default-clause-numbered : goal.returns-in_default-clause-numbered
returns-in_default-clause-numbered c =
    numbers_same (numbers_none _)
    (starts_of_none c.args.starts.now c.args.goals.now (nil_from_length c.args.goals.now c.in_default.ensures.cases))

pub returns-in_err-add_implied-clause-numbered : goal.returns-in_err-add_implied-clause-numbered
returns-in_err-add_implied-clause-numbered c = err_on_ok c.from_residual.result _ _ c.from_residual.ensures.1

pub returns-clause-numbered : goal.returns-clause-numbered
returns-clause-numbered c =
    numbers_same
    (numbers_all (implies c.args.starts.now) c.in-Some.earlier.now _ c.loop-bad-test.false c.loop-bad.invariant.1)
    (ap (flat_map (implies c.args.starts.now))
    (sym (ap all_but_last c.in-Some.ensures.cases.0 ∙ all_but_last-append c.in-Some.earlier.now _)))
