-- Some assignment satisfies the formula that a run keeps all constraints exactly where one does.
use Rattle.std.proofs.Common.{◌↔◌, ℕ, ◌-◌, ◌<◌, List, refl, arith}
use Rattle.aig_parts.specs.declared.raw.Raw.{Raw}
use Rattle.aig_parts.specs.declared.ternary.Tern.{Tern}
use Rattle.aig_base.specs.Circuit.{IsCircuit}
use Rattle.aig_base.specs.Value as value
use Rattle.aig_base.specs.Value.{Value}
use Rattle.aig_cnf.specs.Alive.{IsAliveFormulaOf, always_bad}
use Rattle.aig_cnf.specs.Formula.{Cnf}
use Rattle.aig_cnf.proofs.AlwaysBad.{always_circuit}
use Rattle.aig_refute.specs.Satisfiable.{HasRun, IsReachedAt, IsSatisfiable}
use Rattle.aig_refute.proofs.LastFormula.{last_reached}

module _ (raw : Raw) (start : List Tern) (rows : List (List Tern)) where
  -- values do not depend on properties and names
  there : {t l : ℕ} {w : Tern} → Value raw start rows t l w → Value (always_bad raw) start rows t l w
  there (value.constant_false t) = value.constant_false t
  there (value.constant_true t) = value.constant_true t
  there (value.input t p l w row at is cell) = value.input t p l w row at is cell
  there (value.latch_first p x w at is) = value.latch_first p x w at is
  there (value.latch_next t p x w at v) = value.latch_next t p x w at (there v)
  there (value.gate t q g a b at va vb) = value.gate t q g a b at (there va) (there vb)
  there (value.negated t l w over neg v) = value.negated t l w over neg (there v)

  back : {t l : ℕ} {w : Tern} → Value (always_bad raw) start rows t l w → Value raw start rows t l w
  back (value.constant_false t) = value.constant_false t
  back (value.constant_true t) = value.constant_true t
  back (value.input t p l w row at is cell) = value.input t p l w row at is cell
  back (value.latch_first p x w at is) = value.latch_first p x w at is
  back (value.latch_next t p x w at v) = value.latch_next t p x w at (back v)
  back (value.gate t q g a b at va vb) = value.gate t q g a b at (back va) (back vb)
  back (value.negated t l w over neg v) = value.negated t l w over neg (back v)

pub run_reaches : (raw : Raw) (k : ℕ) → 0 < k → HasRun raw k → IsReachedAt (always_bad raw) (k - 1) 0
run_reaches raw k some (start, rows, (fits, allowed, long, keeps)) = (
  start,
  rows,
  (
    record { latches = fits.latches; inputs = fits.inputs },
    allowed,
    omega (arith, some, long),
    (
      1,
      refl,
      (
        value.constant_true (k - 1),
        λ t c le has. there raw start rows (keeps t c (omega (arith, le, some)) has),
      ),
    ),
  ),
)

pub reached_run : (raw : Raw) (k : ℕ) → 0 < k → IsReachedAt (always_bad raw) (k - 1) 0 → HasRun raw k
reached_run raw k some (start, rows, (fits, allowed, lt, (b, at, (bad, keeps)))) = (
  start,
  rows,
  (
    record { latches = fits.latches; inputs = fits.inputs },
    allowed,
    omega (arith, some, lt),
    λ t c below has. back raw start rows (keeps t c (omega (arith, below)) has),
  ),
)

pub exactly_alive : (raw : Raw) (formula : Cnf) (k : ℕ) → IsCircuit raw → IsAliveFormulaOf raw k formula → 0 < k
    → IsSatisfiable formula.clauses ↔ HasRun raw k
exactly_alive raw formula k circuit is some =
    let same = last_reached (always_bad raw) formula k 0 (always_circuit raw circuit) is some (omega arith) in
    (λ satisfiable. reached_run raw k some (same.0 satisfiable), λ run. same.1 (run_reaches raw k some run))
