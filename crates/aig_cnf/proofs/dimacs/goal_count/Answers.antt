use Rattle.std.proofs.Common.{◌≡◌, ◌-◌, ◌*◌, length, sym, ap, ◌∙◌, arith}
use Rattle.std.proofs.Math.Nat.{mul_comm}
use Rattle.aig_cnf.specs.Formula.{goal_clauses}
use Rattle.aig_cnf.proofs.FormulaText.{length-first_reached, length-induction}
use Rattle.aig_cnf.proofs.dimacs.goal_count.Goals as goal

pub returns-in-Step : goal.returns-in-Step
returns-in-Step c =
    sym (ap (λ g. length (goal_clauses g c.args.starts.now c.args.goals.now)) c.in-Step.is
    ∙ length-first_reached c.args.goals.now)

pub returns-in-Induction : goal.returns-in-Induction
returns-in-Induction c =
    let starts = length c.args.starts.now in
    let earlier = length c.args.goals.now - 1 in
    let count : c.saturating_sub.result ≡ earlier = omega (arith, c.saturating_sub.ensures) in
    let turned : starts * earlier ≡ earlier * starts = mul_comm starts earlier in
    omega (
      arith,
      ap (λ g. length (goal_clauses g c.args.starts.now c.args.goals.now)) c.in-Induction.is,
      length-induction c.args.starts.now c.args.goals.now,
      ap (λ n. starts * n) count ∙ turned,
    )
