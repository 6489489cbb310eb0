use Rattle.std.proofs.Common.{false, refl}
use Rattle.aig_shell.specs.Commands.{request_of}
use Rattle.aig_shell.proofs.lines.Lines.{words_answered, words_refused}
use Rattle.aig_shell.proofs.talk.conversation.Conversation.do_request.Goals as goal

pub returns-in_err-command : goal.returns-in_err-command
returns-in_err-command g c =
    words_refused c.args.self.now (record c.args.self.now { has_warned = false }) _ c.from_residual.result c.in_err-command.field-0.0
    (g.K.Keep.calls c.args.files.now) refl refl c.from_residual.ensures.1 c.in_err-command.ensures.0

pub returns : goal.returns
returns g c =
    words_answered c.args.self.now (record c.args.self.now { has_warned = false }) c.do_command.new.self _ (request_of c.in_ok-command.command)
    c.do_command.result (g.K.Keep.calls c.args.files.now) (g.K.Keep.calls c.do_command.new.files) refl c.in_ok-command.ensures.0
    c.in_ok-command.ensures.1 c.do_command.ensures
