use Rattle.aig_bytes.proofs.GatherLemmas.{gathers_then, gathers_stop, gathers_failed}
use Rattle.aig_format.proofs.writer.section.put_comment.Goals as goal

pub returns-in_err-put_all-in-Some : goal.returns-in_err-put_all-in-Some
returns-in_err-put_all-in-Some g c =
    let h = c.from_residual.ensures.0 in
    rw c.in-Some.is (gathers_stop c.in-Some.bytes.now h (gathers_failed c.in_err-put_all-in-Some.ensures h))

pub returns-in_ok-put_all-in-Some : goal.returns-in_ok-put_all-in-Some
returns-in_ok-put_all-in-Some g c = rw c.in-Some.is (gathers_then c.in_ok-put_all-in-Some.ensures c.put_all-in-Some.ensures)
