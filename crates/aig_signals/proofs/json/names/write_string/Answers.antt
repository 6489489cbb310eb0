use Rattle.aig_bytes.proofs.WriteLemmas.{writes_stop, writes_then}
use Rattle.aig_signals.specs.Json.{string_text}
use Rattle.aig_signals.proofs.json.names.write_string.Goals as goal

pub returns-in_err-write_all : goal.returns-in_err-write_all
unfolding string_text
returns-in_err-write_all g c = writes_stop _ c.in_err-write_all.ensures c.from_residual.ensures.0

pub returns-in_err-write_bytes : goal.returns-in_err-write_bytes
unfolding string_text
returns-in_err-write_bytes g c =
    writes_then c.in_ok-write_all.ensures
    (writes_stop _ c.in_err-write_bytes.ensures c.from_residual-in_err-write_bytes.ensures.0)

pub returns : goal.returns
unfolding string_text
returns g c = writes_then c.in_ok-write_all.ensures (writes_then c.in_ok-write_bytes.ensures c.write_all-2.ensures)
