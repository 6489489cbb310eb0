use Rattle.std.proofs.Common.{ap, ap₂, ◌∷◌, []}
use Rattle.aig_cnf.proofs.AddedLemmas.{adds_then, adds_part, adds_same}
use Rattle.aig_cnf.proofs.NumberedLemmas.{err_on_ok, numbers_same, numbers_then, on_ok_then}
use Rattle.aig_cnf.proofs.checked.add_gate.Goals as goal

pub returns-in_err-add-clause-adds : goal.returns-in_err-add-clause-adds
returns-in_err-add-clause-adds c =
    adds_part _ (adds_same c.in_err-add.ensures.adds (ap (λ n. (n ∷ c.args.gate.rhs0 ∷ []) ∷ []) c.not.ensures))

pub returns-in_err-add-2-clause-adds : goal.returns-in_err-add-2-clause-adds
returns-in_err-add-2-clause-adds c =
    adds_then (adds_same c.in_ok-add.ensures.adds (ap (λ n. (n ∷ c.args.gate.rhs0 ∷ []) ∷ []) c.not.ensures))
    (adds_part _ (adds_same c.in_err-add-2.ensures.adds (ap (λ n. (n ∷ c.args.gate.rhs1 ∷ []) ∷ []) c.not-2.ensures)))

pub returns-clause-adds : goal.returns-clause-adds
returns-clause-adds c =
    adds_then (adds_same c.in_ok-add.ensures.adds (ap (λ n. (n ∷ c.args.gate.rhs0 ∷ []) ∷ []) c.not.ensures))
    (adds_then (adds_same c.in_ok-add-2.ensures.adds (ap (λ n. (n ∷ c.args.gate.rhs1 ∷ []) ∷ []) c.not-2.ensures))
    (adds_same c.add-3.ensures.adds
    (ap₂ (λ m n. (c.args.gate.lhs ∷ m ∷ n ∷ []) ∷ []) c.not-3.ensures c.not-4.ensures)))

pub returns-in_err-add-clause-numbered : goal.returns-in_err-add-clause-numbered
returns-in_err-add-clause-numbered c = err_on_ok c.from_residual.result _ _ c.from_residual.ensures.1

pub returns-in_err-add-2-clause-numbered : goal.returns-in_err-add-2-clause-numbered
returns-in_err-add-2-clause-numbered c = err_on_ok c.from_residual-in_err-add-2.result _ _ c.from_residual-in_err-add-2.ensures.1

pub returns-clause-numbered : goal.returns-clause-numbered
returns-clause-numbered c =
    on_ok_then c.add-3.result _ _
    (λ last.
    numbers_then (numbers_same c.in_ok-add.ensures.numbered (ap (λ n. (n ∷ c.args.gate.rhs0 ∷ []) ∷ []) c.not.ensures))
    (numbers_then (numbers_same c.in_ok-add-2.ensures.numbered (ap (λ n. (n ∷ c.args.gate.rhs1 ∷ []) ∷ []) c.not-2.ensures))
    (numbers_same last (ap₂ (λ m n. (c.args.gate.lhs ∷ m ∷ n ∷ []) ∷ []) c.not-3.ensures c.not-4.ensures))))
    c.add-3.ensures.numbered
