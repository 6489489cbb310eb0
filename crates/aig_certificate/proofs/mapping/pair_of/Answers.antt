use Rattle.std.proofs.Common.{decimal, sym, ◌∙◌}
use Rattle.std.proofs.lemmas.Bool.{false≢true}
use Rattle.aig_certificate.proofs.MappingLines.{known_of, right_line, wrong_entry, wrong_first, wrong_second}
use Rattle.aig_certificate.proofs.mapping.pair_of.Goals as goal

pub returns-in_err-first-clause-none : goal.returns-in_err-first-clause-none
returns-in_err-first-clause-none c is pair right e =
    c.in_err-first.ensures.none (decimal pair.certificate) (decimal pair.model) e

pub returns-in_err-own-clause-none : goal.returns-in_err-own-clause-none
returns-in_err-own-clause-none c is pair right e =
    wrong_first c.args.model.now c.args.certificate.now (known_of c.args.model.now c.args.certificate.now c.facts.ensures c.facts-2.ensures) c.args.line.now c.in_ok-first.first.now c.in_ok-first.second.now
    c.in_ok-first.ensures.some c.in_err-own.ensures.none pair right e

pub returns-in_err-literal-clause-none : goal.returns-in_err-literal-clause-none
returns-in_err-literal-clause-none c is pair right e =
    wrong_second c.args.model.now c.args.certificate.now (known_of c.args.model.now c.args.certificate.now c.facts.ensures c.facts-2.ensures) c.args.line.now c.in_ok-first.first.now c.in_ok-first.second.now
    c.in_ok-first.ensures.some c.in_err-literal.ensures.none pair right e

pub returns-else-is_of_entry-clause-none : goal.returns-else-is_of_entry-clause-none
returns-else-is_of_entry-clause-none c is pair right e =
    wrong_entry c.args.model.now c.args.certificate.now (known_of c.args.model.now c.args.certificate.now c.facts.ensures c.facts-2.ensures) c.args.line.now c.in_ok-first.first.now c.in_ok-first.second.now
    c.in_ok-own.own c.in_ok-first.ensures.some c.in_ok-own.ensures.spelled c.in_ok-own.ensures.defined
    (λ h. false≢true (sym c.if-is_of_entry.false ∙ c.is_of_entry.ensures.1 h)) pair right e

pub returns-then-is_of_entry-clause-line : goal.returns-then-is_of_entry-clause-line
returns-then-is_of_entry-clause-line c =
    right_line c.args.line.now c.in_ok-first.first.now c.in_ok-first.second.now c.in_ok-own.own c.in_ok-literal.literal
    c.in_ok-first.ensures.some c.in_ok-own.ensures.spelled c.in_ok-literal.ensures.spelled

pub returns-then-is_of_entry-clause-pair : goal.returns-then-is_of_entry-clause-pair
returns-then-is_of_entry-clause-pair c = (c.is_of_entry.ensures.0 c.if-is_of_entry.true, c.in_ok-literal.ensures.defined)
