use Rattle.std.proofs.Common.{[], sym, ap}
use Rattle.aig_commands.specs.Refute.{answer_line, answer_text}
use Rattle.aig_commands.specs.state.About.{Answers}
use Rattle.aig_commands.proofs.refute.write_checked.Goals as goal
use Rattle.aig_command.proofs.Written.{got_none, output_ends}
use Rattle.aig_command.specs.Command.{CommandEnds}

pub returns-in-Ok-clause-ends : goal.returns-in-Ok-clause-ends
returns-in-Ok-clause-ends g c =
    output_ends g.W.Write.written g.W.Write.failures c.args.out.now c.write_text.new.out
    (Answers (answer_line c.args.goal c.args.frames) c.args.checked) (answer_line c.args.goal c.args.frames)
    c.write_text.result c.write_text.ensures.written c.write_text.ensures.output
    (sym c.in-Ok.is, sym (ap (answer_text (answer_line c.args.goal c.args.frames)) c.in-Ok.is))

pub returns-in-Err-clause-ends : goal.returns-in-Err-clause-ends
returns-in-Err-clause-ends g c =
    CommandEnds.writes_all [] (sym c.in-Err.is, sym (ap (answer_text (answer_line c.args.goal c.args.frames)) c.in-Err.is))
    (got_none g.W.Write.written g.W.Write.failures c.args.out.now)
