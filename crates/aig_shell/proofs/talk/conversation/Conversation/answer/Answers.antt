use Rattle.std.proofs.Common.{List, ℕ, sym, ap, ◌∙◌}
use Rattle.aig_bytes.specs.Bytes.{after}
use Rattle.aig_shell.specs.Conversation.{no_memory}
use Rattle.aig_shell.specs.declared.talk.conversation.AfterLine.TheVariants as next
use Rattle.aig_shell.proofs.lines.Talks.{reply_written, reply_failed}
use Rattle.aig_shell.proofs.talk.conversation.Conversation.answer.Goals as goal

pub returns-in_err-write_all-in-Ok : goal.returns-in_err-write_all-in-Ok
returns-in_err-write_all-in-Ok g c =
    let w = c.in_err-write_all-in-Ok.ensures in
    reply_failed c.make_answer.new.self.text.items w.err.0 w.err.1.0 c.in-Ok.next c.from_residual.ensures.0 c.in-Ok.ensures.answered
    (sym c.as_slice.ensures.value ∙ w.err.1.1) w.err.2 w.count

pub returns-in_err-write_all-in-Err : goal.returns-in_err-write_all-in-Err
returns-in_err-write_all-in-Err g c =
    let w = c.in_err-write_all-in-Err.ensures in
    reply_failed no_memory w.err.0 w.err.1.0 next.GoesOn c.from_residual-in_err-write_all-in-Err.ensures.0 c.in-Err.ensures.memory
    w.err.1.1 w.err.2 w.count

pub returns-in_ok-write_all-in-Ok : goal.returns-in_ok-write_all-in-Ok
returns-in_ok-write_all-in-Ok g c =
    let w = c.in_ok-write_all-in-Ok.ensures in
    reply_written c.make_answer.new.self.text.items c.in-Ok.next c.in-Ok.ensures.answered
    (w.ok ∙ ap (λ (b : List ℕ). after (g.W.Write.written c.args.out.now) b) c.as_slice.ensures.value) w.count
