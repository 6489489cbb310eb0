use Rattle.std.proofs.Common.{ℕ, ◌+◌, ◌*◌, List, length, sym, ◌∙◌, ap, subst}
use Rattle.aig_parts.specs.declared.raw.Raw.{Raw}
use Rattle.aig_unroll.specs.Answers.{IsUnrolled}
use Rattle.aig_cnf.specs.Formula.{cone}
use Rattle.aig_cnf.proofs.GoalLemmas.{goals_in_range, has_formula, is_formula, keeps, refused, starts_of, subject_bad}
use Rattle.aig_cnf.proofs.GoalLemmas.{unrolled_bad}
use Rattle.aig_cnf.proofs.formula.Formula.of.Goals as goal

pub goals_of-requires-clause-bad : goal.goals_of-requires-clause-bad
goals_of-requires-clause-bad c =
    unrolled_bad c.set_start.new.circuit c.in_ok-unrolled.unrolled c.in_ok-depth.depth c.in_ok-unrolled.ensures
    ∙ ap (λ (ls : List ℕ). c.in_ok-depth.depth * length ls) (sym c.bad.ensures)

pub returns-in_err-goals-clause-refused : goal.returns-in_err-goals-clause-refused
returns-in_err-goals-clause-refused c =
    refused c.args.circuit.now c.args.query _ c.from_residual-in_err-goals.ensures.1
    (has_formula c.args.circuit.now _ c.args.query _ c.set_start.ensures c.in_ok-depth.ensures)

pub cone_of-requires : goal.cone_of-requires
cone_of-requires c =
    goals_in_range c.in_ok-unrolled.unrolled c.facts-2.ensures (length c.bad.result.now) c.in_ok-depth.depth
    c.args.query.property c.deref-2.result.now (c.deref-2.ensures.value ∙ c.in_ok-goals.ensures)

pub returns-in_err-gates-clause-refused : goal.returns-in_err-gates-clause-refused
returns-in_err-gates-clause-refused c =
    refused c.args.circuit.now c.args.query _ c.from_residual-in_err-gates.ensures.1
    (has_formula c.args.circuit.now _ c.args.query _ c.set_start.ensures c.in_ok-depth.ensures)

pub invariant_of-result : goal.invariant_of-result
invariant_of-result c =
    keeps c.args.circuit.now c.set_start.new.circuit c.in_ok-unrolled.unrolled c.args.query c.in_ok-depth.depth
    (length c.bad.result.now) c.args.query.property c.first_latch-first.result (c.max_var.result + 1) c.deref.result.now
    c.in_ok-starts.starts.items c.in_ok-goals.goals.items c.in_ok-gates.gates.items c.set_start.ensures c.facts.ensures c.in_ok-depth.ensures
    (c.deref.ensures.value ∙ c.in_ok-latches.ensures) c.in_ok-starts.ensures c.in_ok-goals.ensures
    c.facts-2.ensures (ap (λ n. n + 1) c.max_var.ensures.value)
    (c.in_ok-gates.ensures ∙ ap (λ (ls : List ℕ). cone ls c.in_ok-unrolled.unrolled.gates) c.deref-2.ensures.value)

pub returns-clause-formula : goal.returns-clause-formula
returns-clause-formula c =
    is_formula c.args.circuit.now c.in_ok-unrolled.unrolled c.args.query c.in_ok-depth.depth (length c.bad.result.now)
    (c.max_var.result + 1) c.in_ok-starts.starts.items c.in_ok-goals.goals.items c.in_ok-gates.gates.items
    (subst (λ (r : Raw). IsUnrolled r c.in_ok-depth.depth c.in_ok-unrolled.unrolled) c.set_start.ensures
    c.in_ok-unrolled.ensures)
    c.in_ok-depth.ensures.0
    (ap (λ (ls : List ℕ). length ls) (c.bad.ensures ∙ ap (λ (r : Raw). r.bad) c.set_start.ensures
    ∙ subject_bad c.args.query.goal c.args.circuit.now))
    (ap (λ n. n + 1) c.max_var.ensures.value)
    (starts_of c.args.circuit.now c.set_start.new.circuit c.args.query c.in_ok-depth.depth c.first_latch-first.result
    c.deref.result.now c.in_ok-starts.starts.items c.set_start.ensures c.in_ok-depth.ensures.0 c.first_latch-first.ensures
    (c.deref.ensures.value ∙ c.in_ok-latches.ensures) c.in_ok-starts.ensures)
    c.in_ok-goals.ensures
    (c.in_ok-gates.ensures ∙ ap (λ (ls : List ℕ). cone ls c.in_ok-unrolled.unrolled.gates) c.deref-2.ensures.value)

pub returns-clause-accepted : goal.returns-clause-accepted
returns-clause-accepted c =
    has_formula c.args.circuit.now _ c.args.query _ c.set_start.ensures c.in_ok-depth.ensures
