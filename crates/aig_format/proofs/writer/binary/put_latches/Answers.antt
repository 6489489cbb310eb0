use Rattle.std.proofs.Common.{ap}
use Rattle.std.proofs.Common.{false}
use Rattle.aig_format.specs.Spelling.{implicit_latch_line}
use Rattle.aig_bytes.proofs.GatherLemmas.{piece_failed, piece_more, gathers_same}
use Rattle.aig_format.proofs.writer.binary.put_latches.Goals as goal

pub returns-in_err-put_latch : goal.returns-in_err-put_latch
returns-in_err-put_latch g c =
    piece_failed (implicit_latch_line false) c.args.latches.now c.loop-latch.latch-index c.latch-item.result c.loop-latch.invariant c.loop-latch-test.true
    (gathers_same c.in_err-put_latch.ensures (ap (implicit_latch_line false) c.latch-item.is)) c.from_residual.ensures.0

pub loop-latch-preserved : goal.loop-latch-preserved
loop-latch-preserved g c =
    piece_more (implicit_latch_line false) c.args.latches.now c.loop-latch.latch-index c.latch-item.result c.loop-latch.invariant c.loop-latch-test.true
    (gathers_same c.in_ok-put_latch.ensures (ap (implicit_latch_line false) c.latch-item.is))
