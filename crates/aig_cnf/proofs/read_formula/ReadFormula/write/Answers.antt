use Rattle.std.proofs.Common.{List, Bool, ◌∙◌, ◌++◌, ap, ap₂, length}
use Rattle.std.specs.Prelude.{codes}
use Rattle.aig_unroll.specs.InputMap.{origin_lines, read_origins}
use Rattle.aig_bytes.proofs.WriteLemmas.{writes_same, writes_stop, writes_then}
use Rattle.aig_cnf.specs.CnfText.{goal_lines}
use Rattle.aig_cnf.specs.Dimacs.{formula_text}
use Rattle.aig_cnf.specs.ReadFormula.{ReadCnf, marked}
use Rattle.aig_cnf.proofs.read_formula.ReadFormula.write.Goals as goal

pub returns-in_err-write : goal.returns-in_err-write
returns-in_err-write g c = writes_stop _ c.in_err-write.ensures c.from_residual.ensures.0

pub returns-in_err-write_input_lines : goal.returns-in_err-write_input_lines
returns-in_err-write_input_lines g c =
    let raw = c.args.circuit.now in
    writes_then c.in_ok-write.ensures
    (writes_stop _ (writes_same c.in_err-write_input_lines.ensures
    (ap₂ (λ (ms : List Bool) k. origin_lines (codes "c ") raw 2 (read_origins (marked ms) raw k))
    (c.deref.ensures.value ∙ ap (λ (x : ReadCnf). x.marks) c.self.view_is)
    (c.depth.ensures ∙ ap (λ (x : ReadCnf). length x.cnf.goals) c.self.view_is)))
    c.from_residual-in_err-write_input_lines.ensures.0)

pub returns : goal.returns
returns g c =
    let raw = c.args.circuit.now in
    writes_then c.in_ok-write.ensures
    (writes_then (writes_same c.in_ok-write_input_lines.ensures
    (ap₂ (λ (ms : List Bool) k. origin_lines (codes "c ") raw 2 (read_origins (marked ms) raw k))
    (c.deref.ensures.value ∙ ap (λ (x : ReadCnf). x.marks) c.self.view_is)
    (c.depth.ensures ∙ ap (λ (x : ReadCnf). length x.cnf.goals) c.self.view_is)))
    (writes_same c.write_goals_and_clauses.ensures
    (ap (λ (x : ReadCnf). goal_lines x.cnf.goals ++ formula_text x.cnf.variables x.cnf.clauses) c.self.view_is)))
