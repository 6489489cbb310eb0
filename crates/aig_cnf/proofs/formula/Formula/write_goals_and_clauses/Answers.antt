use Rattle.std.proofs.Common.{◌∙◌, refl, ap}
use Rattle.aig_bytes.proofs.WriteLemmas.{writes_same}
use Rattle.aig_bytes.proofs.GatherLemmas.{gathers_then, gathers_stop, gathers_same, written_part, written_whole}
use Rattle.aig_cnf.specs.CnfText.{goal_lines}
use Rattle.aig_cnf.specs.Formula.{Cnf}
use Rattle.aig_cnf.proofs.FormulaText.{formula_parts}
use Rattle.aig_cnf.proofs.formula.Formula.write_goals_and_clauses.Goals as goal

pub returns-in_err-put_goal_lines : goal.returns-in_err-put_goal_lines
returns-in_err-put_goal_lines g c =
    written_part c.new-block.ensures (gathers_stop _ refl (gathers_same c.in_err-put_goal_lines.ensures
    (ap goal_lines (c.deref.ensures.value ∙ ap (λ (x : Cnf). x.goals) c.self.view_is)))) c.from_residual.ensures.0

pub returns-in_err-put_problem : goal.returns-in_err-put_problem
returns-in_err-put_problem g c =
    written_part c.new-block.ensures (gathers_then (gathers_same c.in_ok-put_goal_lines.ensures
    (ap goal_lines (c.deref.ensures.value ∙ ap (λ (x : Cnf). x.goals) c.self.view_is)))
    (gathers_same (gathers_stop _ refl c.in_err-put_problem.ensures)
    (formula_parts _ _ _ c.args.self.now.clauses c.variables.ensures.count c.clause_count.ensures)))
    c.from_residual-in_err-put_problem.ensures.0

pub returns-in_err-put_clauses : goal.returns-in_err-put_clauses
returns-in_err-put_clauses g c =
    written_part c.new-block.ensures (gathers_then (gathers_same c.in_ok-put_goal_lines.ensures
    (ap goal_lines (c.deref.ensures.value ∙ ap (λ (x : Cnf). x.goals) c.self.view_is)))
    (gathers_same (gathers_then c.in_ok-put_problem.ensures c.in_err-put_clauses.ensures)
    (formula_parts _ _ _ c.args.self.now.clauses c.variables.ensures.count c.clause_count.ensures)))
    c.from_residual-in_err-put_clauses.ensures.0

pub returns : goal.returns
returns g c =
    written_whole c.new-block.ensures (gathers_then (gathers_same c.in_ok-put_goal_lines.ensures
    (ap goal_lines (c.deref.ensures.value ∙ ap (λ (x : Cnf). x.goals) c.self.view_is)))
    (gathers_same (gathers_then c.in_ok-put_problem.ensures c.in_ok-put_clauses.ensures)
    (formula_parts _ _ _ c.args.self.now.clauses c.variables.ensures.count c.clause_count.ensures)))
    (writes_same c.write_all.ensures c.as_slice.ensures)
