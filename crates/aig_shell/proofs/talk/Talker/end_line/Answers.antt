use Rattle.std.proofs.Common.{◌≡◌, List, ℕ, [], ◌++◌, subst}
use Rattle.aig_bytes.proofs.Results.{on_ok}
use Rattle.aig_shell.specs.Conversation.{no_memory}
use Rattle.aig_shell.specs.Talking.{HoldsLine}
use Rattle.aig_shell.specs.declared.talk.conversation.AfterLine.TheVariants as next
use Rattle.aig_shell.proofs.lines.Talks.{reply_written, reply_failed, replies_same, lacks_memory}
use Rattle.aig_shell.proofs.talk.Talker.end_line.Goals as goal

pub returns-then-is_empty-clause-reply : goal.returns-then-is_empty-clause-reply
returns-then-is_empty-clause-reply g c = λ held h.
    replies_same held c.args.piece.now ((c.is_empty.ensures held h).0 c.if-is_empty.true) c.answer.ensures

pub returns-then-is_empty-clause-empty : goal.returns-then-is_empty-clause-empty
returns-then-is_empty-clause-empty g c =
    on_ok c.answer.result (λ held h. subst (λ (t : List ℕ). HoldsLine t c.args.self.now.line)
    ((c.is_empty.ensures held h).0 c.if-is_empty.true) h)

pub returns-in_err-write_all-clause-reply : goal.returns-in_err-write_all-clause-reply
returns-in_err-write_all-clause-reply g c = λ held h.
    let w = c.in_err-write_all.ensures in
    reply_failed no_memory w.err.0 w.err.1.0 next.GoesOn c.from_residual.ensures.0
    (lacks_memory c.args.self.now.conversation (held ++ c.args.piece.now) (g.K.Keep.calls c.args.files.now)) w.err.1.1 w.err.2 w.count

pub returns-then-is_cut-clause-reply : goal.returns-then-is_cut-clause-reply
returns-then-is_cut-clause-reply g c = λ held h.
    let w = c.in_ok-write_all.ensures in
    reply_written no_memory next.GoesOn
    (lacks_memory c.args.self.now.conversation (held ++ c.args.piece.now) (g.K.Keep.calls c.args.files.now)) w.ok w.count
