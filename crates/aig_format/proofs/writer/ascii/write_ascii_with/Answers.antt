use Rattle.aig_bytes.proofs.WriteLemmas.{writes_same}
use Rattle.aig_bytes.proofs.GatherLemmas.{written_part}
use Rattle.aig_format.proofs.GatherLemmas.{whole_failed, whole_written}
use Rattle.aig_format.proofs.writer.ascii.write_ascii_with.Goals as goal

pub returns-in_err-put_ascii-clause-written : goal.returns-in_err-put_ascii-clause-written
returns-in_err-put_ascii-clause-written g c =
    written_part c.new-block.ensures c.in_err-put_ascii.ensures c.from_residual.ensures.0

pub returns-in_err-write_all-clause-written : goal.returns-in_err-write_all-clause-written
returns-in_err-write_all-clause-written g c =
    whole_failed (rw c.new-block.ensures at c.in_ok-put_ascii.ensures) (writes_same c.in_err-write_all.ensures c.as_slice.ensures)
    c.from_residual-in_err-write_all.ensures.0

pub returns-clause-written : goal.returns-clause-written
returns-clause-written g c =
    whole_written (rw c.new-block.ensures at c.in_ok-put_ascii.ensures) (writes_same c.in_ok-write_all.ensures c.as_slice.ensures)
