use Rattle.std.proofs.Common.{◌+◌, ◌*◌, length, arith}
use Rattle.std.proofs.lemmas.Bool.{cases_lt}
use Rattle.std.proofs.Math.Logic.{⊎_elim}
use Rattle.aig_bench.specs.declared.edit.EditFault.TheVariants as fault
use Rattle.aig_tests.proofs.edits.cell.Goals as goal

pub get-requires-clause-frame : goal.get-requires-clause-frame
get-requires-clause-frame g c =
    ⊎_elim (λ lt. omega (arith, lt, c.grid.ensures.cells.rows))
    (λ ge. absurd (c.in-Ok.ensures.0 fault.NoFrame ge))
    (cases_lt c.args.frame (length c.args.bench.now.pair.rows))

pub get-requires-clause-variable : goal.get-requires-clause-variable
get-requires-clause-variable g c =
    ⊎_elim (λ lt. omega (arith, lt, c.var.ensures, c.grid.ensures.variables))
    (λ ge. absurd (c.in-Ok.ensures.0 fault.Range (λ range. omega (arith, ge, range))))
    (cases_lt c.args.literal (2 * c.args.bench.now.pair.circuit.max_var + 2))
