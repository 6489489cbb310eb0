use Rattle.aig_shell.proofs.lines.Answering.{number_line}
use Rattle.aig_shell.proofs.answers.gate.push_next.Goals as goal

pub returns : goal.returns
returns c =
    number_line c.args.text.now.items c.push_number.new.text.items _ c.next_literal.result _ c.in_ok-push_number.ensures
    c.in_ok-push.ensures.items c.next_literal.ensures
