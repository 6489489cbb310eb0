use Rattle.aig_bytes.proofs.WriteLemmas.{writes_then, writes_stop}
use Rattle.aig_script.proofs.reply.write_frames.Goals as goal

pub returns-in_err-write_trace : goal.returns-in_err-write_trace
returns-in_err-write_trace g c =
    let h = c.in_err-write_trace.ensures in
    (h.0, h.1, writes_stop _ h.2 c.from_residual.ensures.0)

pub returns : goal.returns
returns g c =
    let h = c.in_ok-write_trace.ensures in
    (h.0, h.1, writes_then h.2 c.write_all.ensures)
