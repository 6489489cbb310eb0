use Rattle.std.proofs.Common.{ap}
use Rattle.std.specs.Fmt.{decimal}
use Rattle.aig_bytes.proofs.WriteLemmas.{writes_then, writes_stop, writes_same}
use Rattle.aig_commands.specs.Names.{entry_line}
use Rattle.aig_commands.proofs.entries.write_literal.Goals as goal

pub returns-in_err-write_place : goal.returns-in_err-write_place
unfolding entry_line
returns-in_err-write_place g c = writes_stop _ c.in_err-write_place.ensures c.from_residual.ensures.0

pub returns-in_err-write_number : goal.returns-in_err-write_number
unfolding entry_line
returns-in_err-write_number g c =
    writes_then c.in_ok-write_place.ensures
    (writes_stop _ (writes_same c.in_err-write_number.ensures (ap decimal c.value.ensures)) c.from_residual-in_err-write_number.ensures.0)

pub returns : goal.returns
unfolding entry_line
returns g c =
    writes_then c.in_ok-write_place.ensures
    (writes_then (writes_same c.in_ok-write_number.ensures (ap decimal c.value.ensures)) c.write_end.ensures)
