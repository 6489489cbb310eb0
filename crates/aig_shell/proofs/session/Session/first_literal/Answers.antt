use Rattle.aig_shell.proofs.tables.Differences.{output_some, output_none, other_literal}
use Rattle.aig_shell.proofs.session.Session.first_literal.Goals as goal

pub returns-in-Some : goal.returns-in-Some
returns-in-Some c = λ p h.
    output_some p.circuit c.args.self.now.run.bench.pair.circuit c.args.kind c.args.position c.in-Some.literal c.in-Output.is
    (c.in-Some.ensures p h.keeps)

pub returns-in-None : goal.returns-in-None
returns-in-None c = λ p h.
    output_none p.circuit c.args.self.now.run.bench.pair.circuit c.args.kind c.args.position c.args.now c.in-Output.is h.entries
    c.requires.within (c.in-None.ensures p h.keeps)

pub returns-in_default : goal.returns-in_default
returns-in_default c = λ p h.
    other_literal p.circuit c.args.self.now.run.bench.pair.circuit c.args.kind c.args.position c.args.now c.in_default.not-Output h.entries
    c.requires.now
