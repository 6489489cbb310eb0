use Rattle.std.proofs.Common.{rules}
use Rattle.aig_prompt.proofs.ValueLemmas.{plain_refused_digits, plain_refused_letters}
use Rattle.aig_prompt.proofs.value.plain_value.Goals as goal

pub returns-then-has_unknown-clause-refused : goal.returns-then-has_unknown-clause-refused
returns-then-has_unknown-clause-refused c =
    plain_refused_letters c.args.text.now c.args.width c.binary_value.result c.requires (search rules) (search rules) c.binary_value.ensures.refused

pub returns-clause-refused : goal.returns-clause-refused
returns-clause-refused c =
    plain_refused_digits c.args.text.now c.args.width c.hexadecimal_value.result c.requires (search rules) (search rules) c.hexadecimal_value.ensures.refused
