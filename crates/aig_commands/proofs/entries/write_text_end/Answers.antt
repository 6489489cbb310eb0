use Rattle.aig_bytes.proofs.WriteLemmas.{writes_then, writes_stop}
use Rattle.aig_commands.proofs.entries.write_text_end.Goals as goal

pub returns-in_err-write_all : goal.returns-in_err-write_all
returns-in_err-write_all g c = writes_stop _ c.in_err-write_all.ensures c.from_residual.ensures.0

pub returns-in_err-write_symbol : goal.returns-in_err-write_symbol
returns-in_err-write_symbol g c =
    writes_then c.in_ok-write_all.ensures
    (writes_stop _ c.in_err-write_symbol.ensures.written c.from_residual-in_err-write_symbol.ensures.0)

pub returns : goal.returns
returns g c = writes_then c.in_ok-write_all.ensures (writes_then c.in_ok-write_symbol.ensures.written c.write_all-2.ensures)
