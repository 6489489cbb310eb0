use Rattle.aig_bytes.proofs.WriteLemmas.{writes_then, writes_stop}
use Rattle.aig_unroll.proofs.input_map.write_field.Goals as goal

pub returns-in_err-write_digits : goal.returns-in_err-write_digits
returns-in_err-write_digits g c =
    writes_stop _ c.in_err-write_digits.ensures c.from_residual.ensures.0

pub returns : goal.returns
returns g c =
    writes_then c.in_ok-write_digits.ensures c.write_all.ensures
