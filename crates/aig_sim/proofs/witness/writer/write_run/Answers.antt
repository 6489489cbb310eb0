use Rattle.std.proofs.Common.{refl}
use Rattle.aig_bytes.proofs.GatherLemmas.{gathers_then, gathers_stop, written_part, written_whole}
use Rattle.aig_sim.proofs.witness.writer.write_run.Goals as goal

pub returns-in_err-put_row : goal.returns-in_err-put_row
returns-in_err-put_row g c =
    written_part c.new-block.ensures (gathers_stop _ refl c.in_err-put_row.ensures) c.from_residual.ensures.0

pub returns-in_err-put_rows : goal.returns-in_err-put_rows
returns-in_err-put_rows g c =
    written_part c.new-block.ensures (gathers_then c.in_ok-put_row.ensures (gathers_stop _ refl c.in_err-put_rows.ensures))
    c.from_residual-in_err-put_rows.ensures.0

pub returns-in_err-put_all : goal.returns-in_err-put_all
returns-in_err-put_all g c =
    written_part c.new-block.ensures (gathers_then c.in_ok-put_row.ensures (gathers_then c.in_ok-put_rows.ensures
    c.in_err-put_all.ensures)) c.from_residual-in_err-put_all.ensures.0

pub returns : goal.returns
returns g c =
    written_whole c.new-block.ensures (gathers_then c.in_ok-put_row.ensures (gathers_then c.in_ok-put_rows.ensures
    c.in_ok-put_all.ensures)) c.forward.ensures.written
