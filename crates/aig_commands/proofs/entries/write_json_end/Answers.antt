use Rattle.std.proofs.Common.{ap}
use Rattle.aig_bytes.proofs.WriteLemmas.{writes_then, writes_stop, writes_same}
use Rattle.aig_signals.specs.Json.{name_text}
use Rattle.aig_commands.proofs.entries.write_json_end.Goals as goal

pub returns-in_err-write_all : goal.returns-in_err-write_all
returns-in_err-write_all g c = writes_stop _ c.in_err-write_all.ensures c.from_residual.ensures.0

pub returns-in_err-write_name : goal.returns-in_err-write_name
returns-in_err-write_name g c =
    writes_then c.in_ok-write_all.ensures
    (writes_stop _ (writes_same c.in_err-write_name.ensures (ap name_text c.symbol_of.ensures))
    c.from_residual-in_err-write_name.ensures.0)

pub returns : goal.returns
returns g c =
    writes_then c.in_ok-write_all.ensures
    (writes_then (writes_same c.in_ok-write_name.ensures (ap name_text c.symbol_of.ensures)) c.write_all-2.ensures)
