use Rattle.std.proofs.Common.{ℕ, List, ◌∷◌, [], ap, ap₂}
use Rattle.std.specs.List.{flat_map}
use Rattle.aig_cnf.specs.Formula.{Cnf, gate_clauses, goal_clauses}
use Rattle.aig_cnf.proofs.AddedLemmas.{adds_then, adds_part, adds_same}
use Rattle.aig_cnf.proofs.NumberedLemmas.{err_on_ok, numbers_same, numbers_then, on_ok_then}
use Rattle.aig_cnf.proofs.formula.Formula.add_all.Goals as goal

pub returns-in_err-add-clause-adds : goal.returns-in_err-add-clause-adds
returns-in_err-add-clause-adds c =
    adds_same (adds_part _ (adds_same c.in_err-add.ensures.adds (ap (λ n. (n ∷ []) ∷ []) c.new.ensures)))
    (ap (λ (x : Cnf). x.clauses) c.self.view_is)

pub returns-in_err-add_goal-clause-adds : goal.returns-in_err-add_goal-clause-adds
returns-in_err-add_goal-clause-adds c =
    adds_same (adds_then (adds_same c.in_ok-add.ensures.adds (ap (λ n. (n ∷ []) ∷ []) c.new.ensures))
    (adds_part _ (adds_same c.in_err-add_goal.ensures.adds
    (ap₂ (λ (ms ls : List ℕ). goal_clauses c.self.inside.goal ms ls) c.deref.ensures.value c.deref-2.ensures.value))))
    (ap (λ (x : Cnf). x.clauses) c.self.view_is)

pub returns-clause-adds : goal.returns-clause-adds
returns-clause-adds c =
    adds_same (adds_then (adds_same c.in_ok-add.ensures.adds (ap (λ n. (n ∷ []) ∷ []) c.new.ensures))
    (adds_then (adds_same c.in_ok-add_goal.ensures.adds
    (ap₂ (λ (ms ls : List ℕ). goal_clauses c.self.inside.goal ms ls) c.deref.ensures.value c.deref-2.ensures.value))
    (adds_same c.add_gates.ensures.adds (ap (flat_map gate_clauses) c.as_slice-gates.ensures.value))))
    (ap (λ (x : Cnf). x.clauses) c.self.view_is)

pub returns-in_err-add-clause-numbered : goal.returns-in_err-add-clause-numbered
returns-in_err-add-clause-numbered c = err_on_ok c.from_residual.result _ _ c.from_residual.ensures.1

pub returns-in_err-add_goal-clause-numbered : goal.returns-in_err-add_goal-clause-numbered
returns-in_err-add_goal-clause-numbered c =
    err_on_ok c.from_residual-in_err-add_goal.result _ _ c.from_residual-in_err-add_goal.ensures.1

pub returns-clause-numbered : goal.returns-clause-numbered
returns-clause-numbered c =
    on_ok_then c.add_gates.result _ _
    (λ last.
    numbers_same (numbers_then (numbers_same c.in_ok-add.ensures.numbered (ap (λ n. (n ∷ []) ∷ []) c.new.ensures))
    (numbers_then (numbers_same c.in_ok-add_goal.ensures.numbered
    (ap₂ (λ (ms ls : List ℕ). goal_clauses c.self.inside.goal ms ls) c.deref.ensures.value c.deref-2.ensures.value))
    (numbers_same last (ap (flat_map gate_clauses) c.as_slice-gates.ensures.value))))
    (ap (λ (x : Cnf). x.clauses) c.self.view_is))
    c.add_gates.ensures.numbered
