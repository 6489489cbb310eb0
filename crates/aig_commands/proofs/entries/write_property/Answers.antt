use Rattle.aig_bytes.proofs.WriteLemmas.{writes_then, writes_stop}
use Rattle.aig_commands.specs.Names.{entry_line}
use Rattle.aig_commands.proofs.entries.write_property.Goals as goal

pub returns-in_err-write_place : goal.returns-in_err-write_place
unfolding entry_line
returns-in_err-write_place g c = writes_stop _ c.in_err-write_place.ensures c.from_residual.ensures.0

pub returns-in_err-write_no_literal : goal.returns-in_err-write_no_literal
unfolding entry_line
returns-in_err-write_no_literal g c =
    writes_then c.in_ok-write_place.ensures
    (writes_stop _ c.in_err-write_no_literal.ensures c.from_residual-in_err-write_no_literal.ensures.0)

pub returns : goal.returns
unfolding entry_line
returns g c = writes_then c.in_ok-write_place.ensures (writes_then c.in_ok-write_no_literal.ensures c.write_end.ensures)
