use Rattle.std.proofs.Common.{[], Ok, ap, sym, refl, ◌∙◌, arith}
use Rattle.aig_command.specs.Command.{CommandEnds}
use Rattle.aig_bytes.proofs.WriteLemmas.{after-nil}
use Rattle.aig_commands.proofs.wave.replay.Goals as goal

pub returns-in-Err-Io : goal.returns-in-Err-Io
returns-in-Err-Io g c =
    let (reported, done, reports, beginning, wrote, count) = rw c.in-Err-Io.field-0-is at c.in-Err-Io.ensures in
    CommandEnds.breaks_off (Ok tt) reported reports (record { done = done; beginning = beginning; got = wrote; count = omega (arith, count) })

pub returns-in-Ok : goal.returns-in-Ok
returns-in-Ok g c =
    let (reported, reports, wrote, none) = c.in-Ok.ensures in
    CommandEnds.writes_all reported reports (record { got = wrote; count = none })

pub returns-in-Err-Witness : goal.returns-in-Err-Witness
returns-in-Err-Witness g c =
    let (fault, same) = rw c.in-Err-Witness.field-0-is at c.in-Err-Witness.ensures in
    CommandEnds.writes_all [] (fault, refl) (record {
      got = ap g.W.Write.written same ∙ sym (after-nil (g.W.Write.written c.args.out.now));
      count = ap g.W.Write.failures same;
    })
