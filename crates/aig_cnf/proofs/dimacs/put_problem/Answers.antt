use Rattle.aig_cnf.specs.Dimacs.{problem_line}
use Rattle.aig_bytes.proofs.GatherLemmas.{gathers_then, gathers_stop, gathers_failed}
use Rattle.aig_cnf.proofs.dimacs.put_problem.Goals as goal

pub returns-in_err-put_all : goal.returns-in_err-put_all
unfolding problem_line
returns-in_err-put_all g c =
    let h = c.from_residual.ensures.0 in gathers_stop _ h (gathers_failed c.in_err-put_all.ensures h)

pub returns-in_err-put_field : goal.returns-in_err-put_field
unfolding problem_line
returns-in_err-put_field g c =
    let h = c.from_residual-in_err-put_field.ensures.0 in
    gathers_then c.in_ok-put_all.ensures (gathers_stop _ h (gathers_failed c.in_err-put_field.ensures h))

pub returns-in_err-put_number : goal.returns-in_err-put_number
unfolding problem_line
returns-in_err-put_number g c =
    let h = c.from_residual-in_err-put_number.ensures.0 in
    gathers_then c.in_ok-put_all.ensures (gathers_then c.in_ok-put_field.ensures
    (gathers_stop _ h (gathers_failed c.in_err-put_number.ensures h)))

pub returns : goal.returns
unfolding problem_line
returns g c =
    gathers_then c.in_ok-put_all.ensures
    (gathers_then c.in_ok-put_field.ensures (gathers_then c.in_ok-put_number.ensures c.put.ensures))
