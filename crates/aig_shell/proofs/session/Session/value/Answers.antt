use Rattle.aig_shell.proofs.editing.Impossible.{value_allowed}
use Rattle.aig_shell.proofs.session.Session.value.Goals as goal

pub unreachable-requires : goal.unreachable-requires
unreachable-requires c =
    value_allowed c.args.self.now.run.bench.pair c.args.frame c.args.literal c.width.ensures.circuit c.requires.frame c.requires.defined
    c.in_default.field-0 c.in_default.ensures.0
