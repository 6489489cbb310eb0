use Rattle.aig_command.proofs.GivenRuns.{given_property, given_start}
use Rattle.aig_command.specs.Given.{given_text, read_run}
use Rattle.aig_shell.proofs.lines.Shells.{begins_session, opens, refuses}
use Rattle.aig_shell.proofs.shell.open_session.Goals as goal

pub new-requires-clause-start : goal.new-requires-clause-start
new-requires-clause-start c =
    given_start c.in_ok-circuit.circuit (given_text c.args.given) (read_run c.in_ok-run.run') c.in_ok-run.ensures.run

pub new-requires-clause-property : goal.new-requires-clause-property
new-requires-clause-property c =
    given_property c.in_ok-circuit.circuit (given_text c.args.given) (read_run c.in_ok-run.run') c.in_ok-run.ensures.run

pub returns-clause-session : goal.returns-clause-session
returns-clause-session c =
    let run = read_run c.in_ok-run.run' in
    let raw = c.in_ok-circuit.circuit in
    opens c.args.file.now (given_text c.args.given) raw run c.in_ok-circuit.ensures.circuit c.in_ok-run.ensures.run c.new.result
    (begins_session raw run c.new.result c.new.ensures.begins c.new.ensures.state)

pub returns-clause-refused : goal.returns-clause-refused
returns-clause-refused c =
    refuses c.args.file.now (given_text c.args.given) c.in_ok-circuit.circuit (read_run c.in_ok-run.run')
    c.in_ok-circuit.ensures.circuit c.in_ok-run.ensures.run c.new.result c.new.ensures.refused
