use Rattle.std.proofs.Common.{take, refl, arith}
use Rattle.aig_bytes.proofs.Results.{on_err}
use Rattle.aig_script.proofs.ReplyLemmas.{on_ok_from_err, reading_none, reading_more, reading_fails, reading_stops}
use Rattle.aig_script.proofs.ReplyLemmas.{reading_flushed, reading_unflushed}
use Rattle.aig_script.proofs.script.answer_lines.Goals as goal

pub loop-reader-init : goal.loop-reader-init
loop-reader-init g c = record { room = refl; width = c.requires.width; reading = reading_none c.requires.empty }

pub loop-reader-preserved : goal.loop-reader-preserved
loop-reader-preserved g c =
    let h = c.in_ok-size.ensures in
    let w = c.in_ok-feed.ensures in
    let f = c.in_ok-flush.ensures in
    record {
      room = omega arith;
      width = w.width;
      reading = reading_more (take c.in_ok-size.size c.read.new.buffer)
          (reading_flushed c.loop-reader.invariant.reading f.kept f.count) h.given h.count w.rest w.ok;
    }

pub loop-reader-smaller : goal.loop-reader-smaller
loop-reader-smaller g c = c.in_ok-size.ensures.lowers (omega arith)

pub returns-in_err-flush : goal.returns-in_err-flush
returns-in_err-flush g c =
    let r = c.from_residual.result in
    let h = c.from_residual.ensures.0 in
    let f = c.in_err-flush.ensures in
    record {
      ok = on_ok_from_err _ r h;
      end = on_ok_from_err _ r h;
      err = on_err r (reading_unflushed c.loop-reader.invariant.reading f.kept f.count);
    }

pub returns-in_err-size : goal.returns-in_err-size
returns-in_err-size g c =
    let r = c.from_residual-in_err-size.result in
    let h = c.from_residual-in_err-size.ensures.0 in
    let e = c.in_err-size.ensures in
    let f = c.in_ok-flush.ensures in
    record {
      ok = on_ok_from_err _ r h;
      end = on_ok_from_err _ r h;
      err = on_err r (reading_fails (reading_flushed c.loop-reader.invariant.reading f.kept f.count) e.given e.count);
    }

pub returns-in_err-feed : goal.returns-in_err-feed
returns-in_err-feed g c =
    let r = c.from_residual-in_err-feed.result in
    let h = c.from_residual-in_err-feed.ensures.0 in
    let e = c.in_ok-size.ensures in
    let f = c.in_ok-flush.ensures in
    record {
      ok = on_ok_from_err _ r h;
      end = on_ok_from_err _ r h;
      err = on_err r (reading_stops (take c.in_ok-size.size c.read.new.buffer)
          (reading_flushed c.loop-reader.invariant.reading f.kept f.count) e.given e.count c.in_err-feed.ensures.err);
    }
