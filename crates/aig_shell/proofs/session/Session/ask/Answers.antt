use Rattle.std.proofs.Common.{option_map}
use Rattle.aig_shell.proofs.lines.Answering.{help_answered, query_is}
use Rattle.aig_shell.proofs.session.Session.ask.Goals as goal

pub returns-in-Help : goal.returns-in-Help
returns-in-Help c =
    query_is c.args.self.now c.args.query _ c.push_help.result c.push_help.new.text.items c.in-Help.is
    (help_answered c.args.self.now (option_map (λ w. w.now) c.in-Help.command) c.push_help.result c.push_help.new.text.items)
