-- What the formula over the part says of the circuit.
use Rattle.std.proofs.Common.{◌↔◌, ◌⊎◌, inl, inr, ℕ, ◌-◌, ◌<◌, arith}
use Rattle.aig_parts.specs.declared.raw.Raw.{Raw}
use Rattle.aig_base.specs.Circuit.{IsCircuit}
use Rattle.aig_base.specs.Part.{part}
use Rattle.aig_cnf.specs.Alive.{always_bad}
use Rattle.aig_cnf.specs.Formula.{Cnf}
use Rattle.aig_cnf.specs.Query.{induction, last, step, within}
use Rattle.aig_cnf.specs.declared.query.Query.{Query}
use Rattle.aig_cnf.specs.ReadFormula.{IsReadAliveFormulaOf, IsReadFormulaOf, IsReadOf, ReadCnf, marked}
use Rattle.aig_cnf.proofs.AlwaysBad.{always_circuit}
use Rattle.aig_sat.specs.checker.Consequence.{IsUnsatisfiable}
use Rattle.aig_refute.specs.Satisfiable.{HasBrokenStep, HasRun, IsReachedAt, IsReachedWithin, IsSatisfiable}
use Rattle.aig_refute.specs.Unreachable.{HasNoRun, IsUnreachable, IsUnreachableWithin}
use Rattle.aig_refute.proofs.AliveFormula.{reached_run, run_reaches}
use Rattle.aig_refute.proofs.InductionLemmas.{unreachable}
use Rattle.aig_refute.proofs.LastFormula.{last_reached}
use Rattle.aig_refute.proofs.NamedInduction.{induction_disproved}
use Rattle.aig_refute.proofs.OneFormula.{by_one_formula}
use Rattle.aig_cnf.proofs.PartCircuit.{part_circuit}
use Rattle.aig_refute.proofs.PartRuns.{part_at, part_broken, part_reached, part_unreachable}
use Rattle.aig_refute.proofs.StepFormula.{step_broken}
use Rattle.aig_refute.proofs.WithinFormula.{within_reached}

-- the formula of what was made for the query
pub read_formula : (raw : Raw) (query : Query) (read : ReadCnf) → IsReadOf raw query read → IsReadFormulaOf raw query read.cnf
read_formula raw query read h =
    record { bad = h.bad; bad_is = h.bad_is; test = marked read.marks; exact = h.marks.exact; is = h.cnf }

both_ways : {A B C : Type 0} → (A ↔ C) → (B ↔ C) → A ↔ B
both_ways f g = (λ a. g.1 (f.0 a), λ b. f.1 (g.0 b))

module _ (raw : Raw) (circuit : IsCircuit raw) where
  pub read_within : (formula : Cnf) (k p : ℕ) → IsReadFormulaOf raw (within k p) formula
      → IsSatisfiable formula.clauses ↔ IsReachedWithin raw k p
  read_within formula k p h =
      both_ways
      (within_reached (part raw h.bad h.test) formula k 0 (part_circuit raw h.bad h.test h.exact circuit p h.bad_is) h.is (omega arith))
      (part_reached raw h.bad h.test h.exact p h.bad_is k)

  pub read_last : (formula : Cnf) (k p : ℕ) → IsReadFormulaOf raw (last k p) formula → 0 < k
      → IsSatisfiable formula.clauses ↔ IsReachedAt raw (k - 1) p
  read_last formula k p h some =
      both_ways
      (last_reached (part raw h.bad h.test) formula k 0 (part_circuit raw h.bad h.test h.exact circuit p h.bad_is) h.is some
      (omega arith))
      (part_at raw h.bad h.test h.exact p h.bad_is (k - 1))

  pub read_step : (formula : Cnf) (k p : ℕ) → IsReadFormulaOf raw (step k p) formula
      → IsSatisfiable formula.clauses ↔ HasBrokenStep raw k p
  read_step formula k p h =
      both_ways
      (step_broken (part raw h.bad h.test) formula k 0 (part_circuit raw h.bad h.test h.exact circuit p h.bad_is) h.is (omega arith))
      (part_broken raw h.bad h.test h.exact p h.bad_is k)

  pub read_induction : (formula : Cnf) (k p : ℕ) → IsReadFormulaOf raw (induction k p) formula
      → IsSatisfiable formula.clauses ↔ (IsReachedWithin raw k p ⊎ HasBrokenStep raw k p)
  read_induction formula k p h =
      both_ways
      (induction_disproved (part raw h.bad h.test) formula k 0 (part_circuit raw h.bad h.test h.exact circuit p h.bad_is) h.is
      (omega arith))
      (either (part_reached raw h.bad h.test h.exact p h.bad_is k) (part_broken raw h.bad h.test h.exact p h.bad_is k))
    where
      either : {A B C D : Type 0} → (A ↔ C) → (B ↔ D) → (A ⊎ B) ↔ (C ⊎ D)
      either f g = (there f.0 g.0, there f.1 g.1)
        where
          there : {A B C D : Type 0} → (A → C) → (B → D) → A ⊎ B → C ⊎ D
          there f g (inl a) = inl (f a)
          there f g (inr b) = inr (g b)

  -- ---- refuted

  pub read_unreachable_within : (formula : Cnf) (k p : ℕ) → IsReadFormulaOf raw (within k p) formula
      → IsUnsatisfiable formula.clauses → IsUnreachableWithin raw k p
  read_unreachable_within formula k p h refuted start rows t below reached =
      let (values, satisfies) = (read_within formula k p h).1 (start, rows, t, below, reached) in refuted values satisfies

  pub read_one_formula : (formula : Cnf) (k p : ℕ) → IsReadFormulaOf raw (induction k p) formula
      → IsUnsatisfiable formula.clauses → IsUnreachable raw p
  read_one_formula formula k p h refuted =
      part_unreachable raw h.bad h.test h.exact p h.bad_is
      (by_one_formula (part raw h.bad h.test) formula (part_circuit raw h.bad h.test h.exact circuit p h.bad_is) k 0 h.is refuted)

  pub read_by_induction : (base later : Cnf) (k p : ℕ) → IsReadFormulaOf raw (within k p) base
      → IsReadFormulaOf raw (step k p) later → IsUnsatisfiable base.clauses → IsUnsatisfiable later.clauses → IsUnreachable raw p
  read_by_induction base later k p base_is later_is base_refuted later_refuted =
      unreachable raw circuit k p (read_unreachable_within base k p base_is base_refuted)
      (λ broken. let (values, satisfies) = (read_step later k p later_is).1 broken in later_refuted values satisfies)

pub read_alive : (raw : Raw) (circuit : IsCircuit raw) (formula : Cnf) (k : ℕ) → IsReadAliveFormulaOf raw k formula → 0 < k
    → IsSatisfiable formula.clauses ↔ HasRun raw k
read_alive raw circuit formula k h some =
    let same = read_last (always_bad raw) (always_circuit raw circuit) formula k 0 h some in
    (λ satisfiable. reached_run raw k some (same.0 satisfiable), λ run. same.1 (run_reaches raw k some run))

pub read_no_run : (raw : Raw) (circuit : IsCircuit raw) (formula : Cnf) (k : ℕ) → 0 < k → IsReadAliveFormulaOf raw k formula
    → IsUnsatisfiable formula.clauses → HasNoRun raw k
read_no_run raw circuit formula k some h refuted start rows keeps =
    let (values, satisfies) = (read_alive raw circuit formula k h some).1 (start, rows, keeps) in refuted values satisfies
