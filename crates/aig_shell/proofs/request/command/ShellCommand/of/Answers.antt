use Rattle.aig_shell.proofs.lines.Commands.{no_command}
use Rattle.aig_shell.proofs.request.command.ShellCommand.of.Goals as goal

pub returns-in-None : goal.returns-in-None
returns-in-None c = (no_command c.args.word.now _ c.in-None.ensures.none, λ e. cc e)
