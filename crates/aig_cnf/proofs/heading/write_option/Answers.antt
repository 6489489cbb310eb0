use Rattle.aig_bytes.proofs.WriteLemmas.{writes_then, writes_stop, writes_same}
use Rattle.aig_cnf.proofs.heading.write_option.Goals as goal

pub returns-in_err-write_all : goal.returns-in_err-write_all
returns-in_err-write_all g c = writes_stop _ (writes_same c.in_err-write_all.ensures c.as_bytes.ensures.value) c.from_residual.ensures.0

pub returns-in_err-write_number : goal.returns-in_err-write_number
returns-in_err-write_number g c =
    writes_then (writes_same c.in_ok-write_all.ensures c.as_bytes.ensures.value)
    (writes_stop _ c.in_err-write_number.ensures c.from_residual-in_err-write_number.ensures.0)

pub returns : goal.returns
returns g c = writes_then (writes_same c.in_ok-write_all.ensures c.as_bytes.ensures.value) (writes_then c.in_ok-write_number.ensures c.write_all-2.ensures)
