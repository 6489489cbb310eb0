-- No run keeps the constraints, where no assignment satisfies the formula that one does.
use Rattle.std.proofs.Common.{ℕ, ◌<◌}
use Rattle.aig_parts.specs.declared.raw.Raw.{Raw}
use Rattle.aig_base.specs.Circuit.{IsCircuit}
use Rattle.aig_cnf.specs.Alive.{IsAliveFormulaOf}
use Rattle.aig_cnf.specs.Formula.{Cnf}
use Rattle.aig_refute.proofs.AliveFormula.{exactly_alive}
use Rattle.aig_sat.specs.checker.Consequence.{IsUnsatisfiable}
use Rattle.aig_refute.specs.Unreachable.{HasNoRun}

pub no_run : (raw : Raw) (formula : Cnf) → IsCircuit raw → (k : ℕ) → 0 < k → IsAliveFormulaOf raw k formula
    → IsUnsatisfiable formula.clauses → HasNoRun raw k
no_run raw formula circuit k some is unsatisfiable =
    λ start rows keeps.
    let (values, satisfies) = (exactly_alive raw formula k circuit is some).1 (start, rows, keeps) in
    unsatisfiable values satisfies
