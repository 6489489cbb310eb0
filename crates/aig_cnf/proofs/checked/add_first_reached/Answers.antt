use Rattle.std.proofs.Common.{◌∷◌, [], ◌∙◌, sym, ap}
use Rattle.std.proofs.lemmas.List.{nil_from_length}
use Rattle.aig_parts.specs.Literal.{negation}
use Rattle.aig_cnf.specs.Formula.{first_reached}
use Rattle.aig_cnf.proofs.AddedLemmas.{adds_none, adds_then, adds_more, adds_part, adds_same, adds_some}
use Rattle.aig_cnf.proofs.FormulaText.{denied, first_reached-append}
use Rattle.aig_cnf.proofs.NumberedLemmas.{err_on_ok, numbers_all, numbers_more, numbers_none, numbers_same, numbers_then, on_ok_then}
use Rattle.aig_cnf.proofs.checked.add_first_reached.Goals as goal

pub returns-in_err-add-clause-adds : goal.returns-in_err-add-clause-adds
returns-in_err-add-clause-adds c =
    adds_same (adds_part ((c.in-Some.last.now ∷ []) ∷ []) (adds_some denied c.in-Some.earlier.now _
    (adds_more denied c.in-Some.earlier.now c.loop-literal.literal-index c.literal-item.result c.loop-literal.invariant.0
    c.loop-literal-test.true
    (adds_same c.in_err-add.ensures.adds (ap (λ n. (n ∷ []) ∷ []) (c.not.ensures ∙ ap negation c.literal-item.is))))))
    (sym (ap first_reached c.in-Some.ensures.cases.0 ∙ first_reached-append c.in-Some.earlier.now c.in-Some.last.now))

pub returns-clause-adds : goal.returns-clause-adds
returns-clause-adds c =
    adds_same (adds_then (adds_some denied c.in-Some.earlier.now _ c.loop-literal.invariant.0) c.add-2.ensures.adds)
    (sym (ap first_reached c.in-Some.ensures.cases.0 ∙ first_reached-append c.in-Some.earlier.now c.in-Some.last.now))

pub loop-literal-init : goal.loop-literal-init
loop-literal-init c = (adds_none _, numbers_none _)

pub loop-literal-preserved : goal.loop-literal-preserved
loop-literal-preserved c = (
  adds_more denied c.in-Some.earlier.now c.loop-literal.literal-index c.literal-item.result c.loop-literal.invariant.0
      c.loop-literal-test.true
      (adds_same c.in_ok-add.ensures.adds (ap (λ n. (n ∷ []) ∷ []) (c.not.ensures ∙ ap negation c.literal-item.is))),
  numbers_more denied c.in-Some.earlier.now c.loop-literal.literal-index c.literal-item.result c.loop-literal.invariant.1
      c.loop-literal-test.true
      (numbers_same c.in_ok-add.ensures.numbered (ap (λ n. (n ∷ []) ∷ []) (c.not.ensures ∙ ap negation c.literal-item.is))),
)

pub returns-in_default-clause-numbered : goal.returns-in_default-clause-numbered
returns-in_default-clause-numbered c =
    numbers_same (numbers_none _) (ap first_reached (sym (nil_from_length c.args.goals.now c.in_default.ensures.cases)))

pub returns-in_err-add-clause-numbered : goal.returns-in_err-add-clause-numbered
returns-in_err-add-clause-numbered c = err_on_ok c.from_residual.result _ _ c.from_residual.ensures.1

pub returns-clause-numbered : goal.returns-clause-numbered
returns-clause-numbered c =
    on_ok_then c.add-2.result _ _
    (λ last.
    numbers_same (numbers_then (numbers_all denied c.in-Some.earlier.now _ c.loop-literal-test.false c.loop-literal.invariant.1) last)
    (sym (ap first_reached c.in-Some.ensures.cases.0 ∙ first_reached-append c.in-Some.earlier.now c.in-Some.last.now)))
    c.add-2.ensures.numbered
