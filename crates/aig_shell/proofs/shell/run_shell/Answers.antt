use Rattle.std.proofs.Common.{inl, inr, refl}
use Rattle.aig_bytes.specs.Flow.{flow}
use Rattle.aig_command.proofs.Files.{answered}
use Rattle.aig_command.specs.Given.{given_text}
use Rattle.aig_shell.specs.Conversation.{Ended, BreaksDown, EndsShell}
use Rattle.aig_shell.proofs.lines.Shells.{passes_of, holds_session, shell_refused}
use Rattle.aig_shell.proofs.shell.run_shell.Goals as goal

pub returns-in_err-session : goal.returns-in_err-session
returns-in_err-session g c =
    record {
      ends =
          answered c.from_residual.result c.in_err-session.field-0.0
          (EndsShell (passes_of (flow g.R.Read.left g.R.Read.failures c.args.reader.now c.args.reader.now)
          (flow g.W.Write.written g.W.Write.failures c.args.out.now c.args.out.now) g.K.Keep.calls c.args.files.now c.args.files.now)
          c.args.opening.has_prompt c.args.opening.circuit.now (given_text c.args.opening.given)) c.from_residual.ensures.1
          (shell_refused g.R.Read.left g.R.Read.failures g.W.Write.written g.W.Write.failures g.K.Keep.calls c.args.reader.now c.args.files.now
          c.args.out.now c.args.opening.has_prompt c.args.opening.circuit.now (given_text c.args.opening.given) c.in_err-session.field-0.0 c.in_err-session.ensures.refused);
    }

pub returns-in-Ok : goal.returns-in-Ok
returns-in-Ok g c =
    record {
      ends =
          holds_session (passes_of (flow g.R.Read.left g.R.Read.failures c.args.reader.now c.run.new.reader)
          (flow g.W.Write.written g.W.Write.failures c.args.out.now c.run.new.out) g.K.Keep.calls c.args.files.now c.run.new.files)
          c.args.opening.has_prompt c.args.opening.circuit.now (given_text c.args.opening.given) Ended c.in_ok-session.session c.new-conversation.result c.new-talker.result
          c.in_ok-session.ensures.session c.new-conversation.ensures.session c.new-conversation.ensures.warned
          c.new-talker.ensures.conversation c.new-talker.ensures.prompt c.new-talker.ensures.line c.in-Ok.ensures.ended;
    }

pub returns : goal.returns
returns g c =
    record {
      ends =
          inr (
            refl,
            inl (holds_session (passes_of (flow g.R.Read.left g.R.Read.failures c.args.reader.now c.run.new.reader)
                (flow g.W.Write.written g.W.Write.failures c.args.out.now c.run.new.out) g.K.Keep.calls c.args.files.now c.run.new.files)
                c.args.opening.has_prompt c.args.opening.circuit.now (given_text c.args.opening.given) BreaksDown c.in_ok-session.session c.new-conversation.result c.new-talker.result
                c.in_ok-session.ensures.session c.new-conversation.ensures.session c.new-conversation.ensures.warned
                c.new-talker.ensures.conversation c.new-talker.ensures.prompt c.new-talker.ensures.line c.in-Err.ensures.failed),
          );
    }
