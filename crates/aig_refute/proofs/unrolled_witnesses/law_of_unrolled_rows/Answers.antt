use Rattle.aig_refute.proofs.UnrolledRows.{run_in, row_in, row_wide, row_of_run}
use Rattle.aig_refute.proofs.unrolled_witnesses.law_of_unrolled_rows.Goals as goal

pub returns-clause-run : goal.returns-clause-run
returns-clause-run c = run_in

pub returns-clause-row : goal.returns-clause-row
returns-clause-row c = row_in

pub returns-clause-width : goal.returns-clause-width
returns-clause-width c = row_wide

pub returns-clause-back : goal.returns-clause-back
returns-clause-back c = row_of_run
