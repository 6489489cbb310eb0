use Rattle.aig_shell.proofs.lines.Answering.{gate_answered, gate_refused, query_lacking}
use Rattle.aig_shell.specs.Request as request
use Rattle.aig_shell.proofs.session.Session.gate.Goals as goal

pub returns-in_err-literal : goal.returns-in_err-literal
returns-in_err-literal c =
    gate_refused c.args.self.now c.args.name.now c.from_residual.result c.in_err-literal.field-0.0 c.args.text.now.items c.from_residual.ensures.1
    c.in_err-literal.ensures.err

pub returns-in_err-push_definition : goal.returns-in_err-push_definition
returns-in_err-push_definition c =
    query_lacking c.args.self.now (request.gate c.args.name.now) c.from_residual-in_err-push_definition.result c.push_definition.new.text.items
    c.from_residual-in_err-push_definition.ensures.1

pub returns : goal.returns
returns c =
    let (said, is, added) = c.in_ok-push_definition.ensures in
    gate_answered c.args.self.now c.args.name.now c.in_ok-literal.literal c.args.text.now.items
    c.push_definition.new.text.items said c.requires.empty added c.in_ok-literal.ensures.ok is
