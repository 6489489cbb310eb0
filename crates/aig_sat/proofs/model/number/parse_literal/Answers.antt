use Rattle.std.proofs.Common.{◌≡◌, get_or, rules}
use Rattle.aig_sat.proofs.models.PieceLemmas.{minus_read}
use Rattle.aig_sat.proofs.model.number.parse_literal.Goals as goal

pub returns-in_err-number-in-45-clause-none : goal.returns-in_err-number-in-45-clause-none
returns-in_err-number-in-45-clause-none c is l lt e =
    let first : get_or c.args.word.now 0 0 ≡ 45 = search rules in
    minus_read c.args.word.now l c.args.variables c.requires lt first e
    (c.positive_number.ensures.none c.in_err-number-in-45.was)
