use Rattle.std.proofs.Common.{[], ◌++◌, Ok, ap, sym, refl, ◌∙◌}
use Rattle.aig_commands.specs.Check.{verdict_text}
use Rattle.aig_commands.proofs.Replays.{trace_stopped, both_written, line_stopped}
use Rattle.aig_commands.proofs.check.write_run.Goals as goal
use Rattle.aig_command.proofs.Written.{got_all, got_part}
use Rattle.aig_command.specs.Command.{CommandEnds}
use Rattle.aig_bytes.proofs.WriteLemmas.{after-nil}
use Rattle.aig_sim.proofs.VerdictExists.{shows_some}

pub returns-in-Err-Io : goal.returns-in-Err-Io
returns-in-Err-Io g c =
    let (reported, done, reports, beginning, wrote, count) = rw c.in-Err-Io.field-0-is at c.in-Err-Io.ensures.text in
    let (v, shows) = shows_some c.args.circuit.now c.facts.ensures c.args.witness.now reports.witness reports.spells reports.admitted in
    CommandEnds.breaks_off (Ok v) (reported ++ verdict_text v) (shows, (reported, reports, refl))
    (got_part g.W.Write.written g.W.Write.failures c.args.out.now c.write_trace.new.out (reported ++ verdict_text v) _
    (trace_stopped g.W.Write.written g.W.Write.failures c.args.out.now c.write_trace.new.out reported (verdict_text v)
    done beginning wrote count))

pub returns-in-Err-Witness : goal.returns-in-Err-Witness
returns-in-Err-Witness g c =
    let (fault, same) = rw c.in-Err-Witness.field-0-is at c.in-Err-Witness.ensures.text in
    CommandEnds.writes_all [] (rw c.in-Err-Witness.why-is fault, refl) (record {
      got = ap g.W.Write.written same ∙ sym (after-nil (g.W.Write.written c.args.out.now));
      count = ap g.W.Write.failures same;
    })

pub returns-in-Ok-write_verdict : goal.returns-in-Ok-write_verdict
returns-in-Ok-write_verdict g c =
    let (reported, reports, wrote, none) = c.in-Ok.ensures.text in
    let v = c.in-Ok.verdict in
    CommandEnds.writes_all (reported ++ verdict_text v) (c.in-Ok.ensures.verdict, (reported, reports, refl))
    (got_all g.W.Write.written g.W.Write.failures c.args.out.now c.write_verdict.new.out (reported ++ verdict_text v) v
    (both_written g.W.Write.written g.W.Write.failures c.args.out.now c.write_verdict.new.out reported (verdict_text v)
    c.write_trace.new.out wrote none v c.in-Ok-write_verdict.ensures.ok c.in-Ok-write_verdict.ensures.count))

pub returns-in-Err : goal.returns-in-Err
returns-in-Err g c =
    let (reported, reports, wrote, none) = c.in-Ok.ensures.text in
    let v = c.in-Ok.verdict in
    let (done, beginning, line) = c.in-Err.ensures.err in
    CommandEnds.breaks_off (Ok v) (reported ++ verdict_text v) (c.in-Ok.ensures.verdict, (reported, reports, refl))
    (got_part g.W.Write.written g.W.Write.failures c.args.out.now c.write_verdict.new.out (reported ++ verdict_text v) _
    (line_stopped g.W.Write.written g.W.Write.failures c.args.out.now c.write_verdict.new.out reported (verdict_text v)
    c.write_trace.new.out wrote none done beginning line c.in-Err.ensures.count))
