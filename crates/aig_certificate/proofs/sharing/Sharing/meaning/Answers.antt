use Rattle.std.proofs.lemmas.Result.{IfOk-weaker}
use Rattle.aig_certificate.proofs.SaidPairs.{by_pairs, by_symbols}
use Rattle.aig_certificate.proofs.sharing.Sharing.meaning.Goals as goal

pub returns-in-Symbols-clause-meaning : goal.returns-in-Symbols-clause-meaning
returns-in-Symbols-clause-meaning c =
    IfOk-weaker c.named_literal.result _ _
    (by_symbols c.args.model.now c.args.certificate.now c.args.self.now c.in-Symbols.is (c.args.kind, c.args.position))
    c.named_literal.ensures.named

pub returns-in-Pairs-clause-meaning : goal.returns-in-Pairs-clause-meaning
returns-in-Pairs-clause-meaning c =
    by_pairs c.args.model.now c.args.certificate.now c.args.self.now c.in-Pairs._pairs c.in-Pairs.said c.in-Pairs.is
    c.requires.sharing.table c.args.kind c.args.position c.said_at.result c.said_at.ensures.some c.said_at.ensures.none
