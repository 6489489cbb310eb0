use Rattle.aig_bytes.proofs.GatherLemmas.{gathers_then, gathers_stop, gathers_failed}
use Rattle.aig_cnf.proofs.dimacs.put_goal_line.Goals as goal

pub returns-in_err-put_all : goal.returns-in_err-put_all
returns-in_err-put_all g c =
    let h = c.from_residual.ensures.0 in gathers_stop _ h (gathers_failed c.in_err-put_all.ensures h)

pub returns-in_err-put_literal : goal.returns-in_err-put_literal
returns-in_err-put_literal g c =
    let h = c.from_residual-in_err-put_literal.ensures.0 in
    gathers_then c.in_ok-put_all.ensures (gathers_stop _ h (gathers_failed c.in_err-put_literal.ensures h))

pub returns : goal.returns
returns g c = gathers_then c.in_ok-put_all.ensures (gathers_then c.in_ok-put_literal.ensures c.put_field.ensures)
