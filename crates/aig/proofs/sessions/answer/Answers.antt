use Rattle.aig_command.specs.Given.{given_text}
use Rattle.aig.proofs.SessionEndings.{session_ends}
use Rattle.aig.proofs.sessions.answer.Goals as goal

pub returns : goal.returns
returns g c =
    session_ends g.W.Write.written g.W.Write.failures _ _ _ _ _ _ _ _ c.args.opening.circuit.now (given_text c.args.opening.given)
    c.run_shell-done.result c.ended.result c.run_shell-done.ensures.ends c.ended.ensures.ends
