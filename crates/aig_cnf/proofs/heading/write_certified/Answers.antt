use Rattle.aig_bytes.proofs.WriteLemmas.{writes_then, writes_stop}
use Rattle.aig_cnf.proofs.heading.write_certified.Goals as goal

pub returns-in_err-write_option : goal.returns-in_err-write_option
returns-in_err-write_option g c = writes_stop _ c.in_err-write_option.ensures c.from_residual.ensures.0

pub returns : goal.returns
returns g c = writes_then c.in_ok-write_option.ensures c.write_symbol.ensures.written
