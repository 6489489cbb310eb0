use Rattle.std.proofs.Common.{ℕ, List, ◌∷◌, [], ap, ap₂, subst, sym, All}
use Rattle.std.specs.List.{flat_map}
use Rattle.aig_bytes.proofs.GatherLemmas.{gathers_then, gathers_stop, gathers_failed, gathers_same}
use Rattle.aig_parts.specs.declared.gate.Gate.{Gate}
use Rattle.aig_cnf.specs.Dimacs.{clause_text, gate_text}
use Rattle.aig_cnf.specs.Formula.{Cnf, goal_clauses}
use Rattle.aig_cnf.specs.state.Kept.{IsShort}
use Rattle.aig_cnf.proofs.FormulaText.{clauses_text}
use Rattle.aig_cnf.proofs.formula.Formula.put_clauses.Goals as goal

pub put_gates-requires : goal.put_gates-requires
put_gates-requires g c =
    subst (λ (gs : List Gate). All IsShort gs) (sym c.as_slice-gates.ensures.value) c.self.invariant.short

pub returns-in_err-put_clause : goal.returns-in_err-put_clause
returns-in_err-put_clause g c =
    let h = c.from_residual.ensures.0 in
    let f = c.self.inside in
    gathers_same (gathers_stop _ h (gathers_failed (gathers_same c.in_err-put_clause.ensures
    (ap (λ l. clause_text (l ∷ [])) c.new.ensures)) h))
    (clauses_text f.goal f.starts.items f.goals.items f.gates.items _
    (ap (λ (x : Cnf). x.clauses) c.self.view_is))

pub returns-in_err-put_goal : goal.returns-in_err-put_goal
returns-in_err-put_goal g c =
    let h = c.from_residual-in_err-put_goal.ensures.0 in
    let f = c.self.inside in
    gathers_same (gathers_then (gathers_same c.in_ok-put_clause.ensures (ap (λ l. clause_text (l ∷ [])) c.new.ensures))
    (gathers_stop _ h (gathers_failed (gathers_same c.in_err-put_goal.ensures
    (ap₂ (λ (ms ls : List ℕ). flat_map clause_text (goal_clauses f.goal ms ls)) c.deref.ensures.value c.deref-2.ensures.value)) h)))
    (clauses_text f.goal f.starts.items f.goals.items f.gates.items _
    (ap (λ (x : Cnf). x.clauses) c.self.view_is))

pub returns : goal.returns
returns g c =
    let f = c.self.inside in
    gathers_same (gathers_then (gathers_same c.in_ok-put_clause.ensures (ap (λ l. clause_text (l ∷ [])) c.new.ensures))
    (gathers_then (gathers_same c.in_ok-put_goal.ensures
    (ap₂ (λ (ms ls : List ℕ). flat_map clause_text (goal_clauses f.goal ms ls)) c.deref.ensures.value c.deref-2.ensures.value))
    (gathers_same c.put_gates.ensures (ap (flat_map gate_text) c.as_slice-gates.ensures.value))))
    (clauses_text f.goal f.starts.items f.goals.items f.gates.items _
    (ap (λ (x : Cnf). x.clauses) c.self.view_is))
