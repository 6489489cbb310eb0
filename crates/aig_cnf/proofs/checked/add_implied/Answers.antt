use Rattle.std.proofs.Common.{◌∷◌, [], ap₂}
use Rattle.aig_cnf.proofs.AddedLemmas.{adds_none, adds_more, adds_same, adds_some}
use Rattle.aig_cnf.proofs.FormulaText.{implied, implied_each}
use Rattle.aig_cnf.proofs.NumberedLemmas.{err_on_ok, numbers_all, numbers_more, numbers_none, numbers_same}
use Rattle.aig_cnf.proofs.checked.add_implied.Goals as goal

pub loop-other-init : goal.loop-other-init
loop-other-init c = (adds_none _, numbers_none _)

pub loop-other-preserved : goal.loop-other-preserved
loop-other-preserved c = (
  adds_more (implied c.args.literal) c.args.implied.now c.loop-other.other-index c.other-item.result c.loop-other.invariant.0
      c.loop-other-test.true
      (adds_same c.in_ok-add.ensures.adds (ap₂ (λ n m. (n ∷ m ∷ []) ∷ []) c.not.ensures c.other-item.is)),
  numbers_more (implied c.args.literal) c.args.implied.now c.loop-other.other-index c.other-item.result c.loop-other.invariant.1
      c.loop-other-test.true (numbers_same c.in_ok-add.ensures.numbered (ap₂ (λ n m. (n ∷ m ∷ []) ∷ []) c.not.ensures c.other-item.is)),
)

pub returns-in_err-add-clause-adds : goal.returns-in_err-add-clause-adds
returns-in_err-add-clause-adds c =
    adds_same (adds_some (implied c.args.literal) c.args.implied.now _
    (adds_more (implied c.args.literal) c.args.implied.now c.loop-other.other-index c.other-item.result
    c.loop-other.invariant.0 c.loop-other-test.true
    (adds_same c.in_err-add.ensures.adds (ap₂ (λ n m. (n ∷ m ∷ []) ∷ []) c.not.ensures c.other-item.is))))
    (implied_each c.args.literal c.args.implied.now)

pub returns-clause-adds : goal.returns-clause-adds
returns-clause-adds c =
    adds_same (adds_some (implied c.args.literal) c.args.implied.now _ c.loop-other.invariant.0)
    (implied_each c.args.literal c.args.implied.now)

pub returns-in_err-add-clause-numbered : goal.returns-in_err-add-clause-numbered
returns-in_err-add-clause-numbered c = err_on_ok c.from_residual.result _ _ c.from_residual.ensures.1

pub returns-clause-numbered : goal.returns-clause-numbered
returns-clause-numbered c =
    numbers_same
    (numbers_all (implied c.args.literal) c.args.implied.now _ c.loop-other-test.false c.loop-other.invariant.1)
    (implied_each c.args.literal c.args.implied.now)
