use Rattle.std.proofs.Common.{sym}
use Rattle.aig_shell.proofs.lines.Commands.{no_names}
use Rattle.aig_shell.proofs.request.command.show_of.Goals as goal

pub returns-in-Some-after_byte : goal.returns-in-Some-after_byte
returns-in-Some-after_byte c = (
  no_names c.args.words.now c.in-Some.last.now c.in-Some-after_byte.field-0.now c.if-words-eq1.true c.in-Some.ensures.value
      c.in-Some-after_byte.ensures.some,
  λ e. cc e,
)
