use Rattle.std.proofs.Common.{length, sym, ◌∙◌}
use Rattle.aig_certificate.proofs.SaidPairs.{in_table, said_here}
use Rattle.aig_certificate.proofs.sharing.said_at.Goals as goal

pub index-requires : goal.index-requires
index-requires c =
    in_table c.args.certificate.now c.facts.ensures.sound c.args.kind c.args.position c.in_ok-own.own c.var.result
    (length c.args.said.now) (sym c.literal_at.ensures ∙ c.in_ok-own.was) c.var.ensures c.requires

pub returns-clause-some : goal.returns-clause-some
returns-clause-some c own at =
    said_here c.args.said.now own c.in_ok-own.own c.var.result c.index.result.now c.var.ensures
    (sym at ∙ sym c.literal_at.ensures ∙ c.in_ok-own.was)
    (in_table c.args.certificate.now c.facts.ensures.sound c.args.kind c.args.position c.in_ok-own.own c.var.result
    (length c.args.said.now) (sym c.literal_at.ensures ∙ c.in_ok-own.was) c.var.ensures c.requires)
    c.index.ensures
