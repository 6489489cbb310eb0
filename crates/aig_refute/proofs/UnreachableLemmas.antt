-- No run reaches a bad state within k frames, where no assignment satisfies its formula.
use Rattle.std.proofs.Common.{ℕ}
use Rattle.std.proofs.lemmas.Option.{slice_get_within}
use Rattle.aig_parts.specs.declared.raw.Raw.{Raw}
use Rattle.aig_base.specs.Circuit.{IsCircuit}
use Rattle.aig_cnf.specs.Formula.{Cnf, IsFormulaOf}
use Rattle.aig_cnf.specs.Query.{within}
use Rattle.aig_refute.proofs.WithinFormula.{within_reached}
use Rattle.aig_sat.specs.checker.Consequence.{IsUnsatisfiable}
use Rattle.aig_refute.specs.Unreachable.{IsUnreachableWithin}

pub unreachable_within : (raw : Raw) (formula : Cnf) → IsCircuit raw → (k p : ℕ) → IsFormulaOf raw (within k p) formula
    → IsUnsatisfiable formula.clauses → IsUnreachableWithin raw k p
unreachable_within raw formula circuit k p is unsatisfiable =
    λ start rows t below (fits, allowed, lt, (b, at, reaches)).
    let (values, satisfies) = (within_reached raw formula k p circuit is (slice_get_within raw.bad p b at)).1
    (start, rows, t, below, (fits, allowed, lt, (b, at, reaches))) in
    unsatisfiable values satisfies
