use Rattle.std.proofs.Common.{◌∙◌, length, ℕ, List, ap, ap₂, arith}
use Rattle.aig_cnf.specs.Formula.{Cnf, goal_clauses}
use Rattle.aig_cnf.proofs.FormulaText.{length-formula, length-goal_clauses}
use Rattle.aig_cnf.proofs.formula.Formula.clause_count.Goals as goal

pub goal_count-requires-clause-starts : goal.goal_count-requires-clause-starts
goal_count-requires-clause-starts c =
    omega (arith, ap (λ (ls : List ℕ). length ls) c.deref.ensures.value, c.self.invariant.latches)

pub goal_count-requires-clause-goals : goal.goal_count-requires-clause-goals
goal_count-requires-clause-goals c =
    omega (arith, ap (λ (ls : List ℕ). length ls) c.deref-2.ensures.value, c.self.invariant.frames)

pub overflow_add-result : goal.overflow_add-result
overflow_add-result c =
    let f = c.self.inside in
    let some = c.goal_count.ensures
    ∙ ap₂ (λ (ms ls : List ℕ). length (goal_clauses f.goal ms ls)) c.deref.ensures.value c.deref-2.ensures.value in
    omega (
      arith,
      some,
      length-goal_clauses f.goal f.starts.items f.goals.items c.self.invariant.latches c.self.invariant.frames,
    )

pub overflow_add-result-2 : goal.overflow_add-result-2
overflow_add-result-2 c =
    let f = c.self.inside in
    let some = c.goal_count.ensures
    ∙ ap₂ (λ (ms ls : List ℕ). length (goal_clauses f.goal ms ls)) c.deref.ensures.value c.deref-2.ensures.value in
    omega (
      arith,
      some,
      length-goal_clauses f.goal f.starts.items f.goals.items c.self.invariant.latches c.self.invariant.frames,
      c.self.invariant.few,
    )

pub returns : goal.returns
returns c =
    let f = c.self.inside in
    let all = ap (λ (x : Cnf). length x.clauses) c.self.view_is in
    let size = length-formula f.goal f.starts.items f.goals.items f.gates.items in
    let some = c.goal_count.ensures
    ∙ ap₂ (λ (ms ls : List ℕ). length (goal_clauses f.goal ms ls)) c.deref.ensures.value c.deref-2.ensures.value in
    omega (
      arith,
      all,
      size,
      some,
    )
