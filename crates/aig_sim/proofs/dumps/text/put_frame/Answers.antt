use Rattle.aig_bytes.proofs.GatherLemmas.{gathers_then, gathers_stop, gathers_failed, gathers_same}
use Rattle.aig_sim.proofs.DumpLemmas.{first_frame, later_frame, frame_begins}
use Rattle.aig_sim.proofs.dumps.text.put_frame.Goals as goal

pub returns-in_err-put_time : goal.returns-in_err-put_time
returns-in_err-put_time g c =
    let h = c.from_residual.ensures.0 in
    let (rest, is) = frame_begins c.args.frame c.args.before.now c.args.after.now in
    gathers_same (gathers_stop rest h (gathers_failed c.in_err-put_time.ensures h)) is

pub returns-then-frame-gt0 : goal.returns-then-frame-gt0
returns-then-frame-gt0 g c =
    gathers_same (gathers_then c.in_ok-put_time.ensures c.put_changes.ensures)
    (later_frame c.args.frame c.args.before.now c.args.after.now c.if-frame-gt0.true)

pub returns-in_err-put_all : goal.returns-in_err-put_all
returns-in_err-put_all g c =
    let h = c.from_residual-in_err-put_all.ensures.0 in
    gathers_same (gathers_then c.in_ok-put_time.ensures (gathers_stop _ h (gathers_failed c.in_err-put_all.ensures h)))
    (first_frame c.args.frame c.args.before.now c.args.after.now c.if-frame-gt0.false)

pub returns-in_err-put_changes : goal.returns-in_err-put_changes
returns-in_err-put_changes g c =
    let h = c.from_residual-in_err-put_changes.ensures.0 in
    gathers_same (gathers_then c.in_ok-put_time.ensures (gathers_then c.in_ok-put_all.ensures
    (gathers_stop _ h (gathers_failed c.in_err-put_changes.ensures h))))
    (first_frame c.args.frame c.args.before.now c.args.after.now c.if-frame-gt0.false)

pub returns : goal.returns
returns g c =
    gathers_same (gathers_then c.in_ok-put_time.ensures (gathers_then c.in_ok-put_all.ensures
    (gathers_then c.in_ok-put_changes.ensures c.put_all-2.ensures)))
    (first_frame c.args.frame c.args.before.now c.args.after.now c.if-frame-gt0.false)
