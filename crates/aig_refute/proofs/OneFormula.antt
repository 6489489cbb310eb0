-- No run of any length reaches a bad state, where no assignment satisfies the formula of an induction.
use Rattle.std.proofs.Common.{ℕ, sym, subst}
use Rattle.aig_parts.specs.declared.raw.Raw.{Raw}
use Rattle.aig_base.specs.Circuit.{IsCircuit}
use Rattle.aig_cnf.specs.Formula.{Cnf, IsFormulaOf, formula_of}
use Rattle.aig_cnf.specs.Query.{induction}
use Rattle.aig_refute.specs.Satisfiable.{IsSatisfiable}
use Rattle.aig_refute.proofs.DisprovedInduction.{broken_satisfies, reached_satisfies}
use Rattle.aig_sat.specs.checker.Clause.{Satisfies}
use Rattle.aig_sat.specs.checker.Consequence.{IsUnsatisfiable}
use Rattle.aig_refute.specs.Unreachable.{IsUnreachable}
use Rattle.aig_refute.proofs.InductionLemmas.{unreachable}

pub by_one_formula : (raw : Raw) (formula : Cnf) → IsCircuit raw → (k p : ℕ) → IsFormulaOf raw (induction k p) formula
    → IsUnsatisfiable formula.clauses → IsUnreachable raw p
by_one_formula raw formula circuit k p (order, canonical, is) refuted =
    unreachable raw circuit k p
    (λ start rows t below reaches. none (reached_satisfies raw circuit order canonical k p (start, rows, t, below, reaches)))
    (λ broken. none (broken_satisfies raw circuit order canonical k p broken))
  where
    none : IsSatisfiable (formula_of raw order (induction k p)).clauses → ⊥
    none (values, satisfies) = refuted values (subst (λ (f : Cnf). Satisfies values f.clauses) (sym is) satisfies)
