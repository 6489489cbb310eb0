use Rattle.std.proofs.Common.{true, Ok, refl}
use Rattle.aig_bytes.specs.declared.fault.Io.{Io}
use Rattle.aig_shell.specs.Talking.{moment}
use Rattle.aig_shell.proofs.lines.Talks.{finished_of, done_of, ends_err, ends_finished, part_newline}
use Rattle.aig_shell.proofs.talk.Talker.end.Goals as goal

pub returns-in_err-write_newline-in-GoesOn : goal.returns-in_err-write_newline-in-GoesOn
returns-in_err-write_newline-in-GoesOn g c = λ start person s input st.
    let w = c.in_err-write_newline-in-GoesOn.ensures in
    ends_err c.from_residual-in_err-write_newline-in-GoesOn.result c.from_residual-in_err-write_newline-in-GoesOn.ensures.0
    (part_newline w.err.0 w.err.1.0
    (finished_of {E = Io} (Ok c.in_ok-end_last_line.field-0) c.in_ok-end_last_line.field-0 refl c.in-GoesOn.is
    (c.in_ok-end_last_line.ensures start person s input st))
    w.err.1.1 w.err.2 w.count refl)

pub returns-in-Ends : goal.returns-in-Ends
returns-in-Ends g c = λ start person s input st. (
  true,
  done_of {E = Io} (Ok c.in_ok-end_last_line.field-0) c.in_ok-end_last_line.field-0 refl c.in-Ends.is c.end_last_line.new.self
      (c.in_ok-end_last_line.ensures start person s input st),
)

pub returns-in_ok-write_newline-in-GoesOn : goal.returns-in_ok-write_newline-in-GoesOn
returns-in_ok-write_newline-in-GoesOn g c = λ start person s input st.
    let w = c.in_ok-write_newline-in-GoesOn.ensures in
    let (what, says, v) = c.write_unsaved.ensures in
    ends_finished (moment g.W.Write.written g.W.Write.failures g.K.Keep.calls c.write_newline.new.out c.end_last_line.new.files)
    (moment g.W.Write.written g.W.Write.failures g.K.Keep.calls c.write_unsaved.new.out c.end_last_line.new.files) what
    c.write_unsaved.result
    (finished_of {E = Io} (Ok c.in_ok-end_last_line.field-0) c.in_ok-end_last_line.field-0 refl c.in-GoesOn.is
    (c.in_ok-end_last_line.ensures start person s input st))
    w.ok w.count says v.ok v.err v.count refl
