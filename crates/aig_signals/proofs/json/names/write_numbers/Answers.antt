use Rattle.std.proofs.Common.{ap}
use Rattle.std.specs.Prelude.{decimal}
use Rattle.aig_bytes.proofs.WriteLemmas.{writes_same, writes_stop, writes_then}
use Rattle.aig_signals.proofs.json.names.write_numbers.Goals as goal

pub returns-in_err-write_all : goal.returns-in_err-write_all
returns-in_err-write_all g c = writes_stop _ c.in_err-write_all.ensures c.from_residual.ensures.0

pub returns-in_err-write_number : goal.returns-in_err-write_number
returns-in_err-write_number g c =
    writes_then c.in_ok-write_all.ensures
    (writes_stop _ (writes_same c.in_err-write_number.ensures (ap decimal c.from.ensures)) c.from_residual-in_err-write_number.ensures.0)

pub returns-in_err-write_more : goal.returns-in_err-write_more
returns-in_err-write_more g c =
    writes_then c.in_ok-write_all.ensures (writes_then (writes_same c.in_ok-write_number.ensures (ap decimal c.from.ensures))
    (writes_stop _ c.in_err-write_more.ensures c.from_residual-in_err-write_more.ensures.0))

pub returns : goal.returns
returns g c =
    writes_then c.in_ok-write_all.ensures (writes_then (writes_same c.in_ok-write_number.ensures (ap decimal c.from.ensures))
    (writes_then c.in_ok-write_more.ensures c.write_all-2.ensures))
