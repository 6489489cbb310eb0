use Rattle.std.proofs.Common.{ap}
use Rattle.std.specs.Prelude.{decimal}
use Rattle.aig_bytes.proofs.WriteLemmas.{writes_same, writes_stop, writes_then}
use Rattle.aig_signals.proofs.json.names.write_next.Goals as goal

pub returns-in_err-write_all : goal.returns-in_err-write_all
returns-in_err-write_all g c = writes_stop _ c.in_err-write_all.ensures c.from_residual.ensures.0

pub returns : goal.returns
returns g c = writes_then c.in_ok-write_all.ensures (writes_same c.write_number.ensures (ap decimal c.from.ensures))
