use Rattle.std.proofs.Common.{sym, ap, ◌∙◌, length, arith}
use Rattle.std.proofs.lemmas.Fmt.{decimal_digit}
use Rattle.aig_bytes.proofs.DigitLemmas.{decimal_one, scaled_digits, scaled_decimal, length-decimal}
use Rattle.aig_bytes.proofs.digits.scale.Goals as goal

pub returns-then-number-lt10-clause-digits : goal.returns-then-number-lt10-clause-digits
returns-then-number-lt10-clause-digits c = scaled_digits 1 7 c.args.number ∙ sym (decimal_one c.args.number (omega arith))

pub returns-then-number-lt10-clause-count : goal.returns-then-number-lt10-clause-count
returns-then-number-lt10-clause-count c = sym (ap length (decimal_digit c.args.number (omega arith)))

pub returns-else-number-lt10-clause-digits : goal.returns-else-number-lt10-clause-digits
returns-else-number-lt10-clause-digits c = scaled_decimal 1 6 c.args.number (omega arith) (omega arith) (omega arith)

pub returns-else-number-lt10-clause-count : goal.returns-else-number-lt10-clause-count
returns-else-number-lt10-clause-count c = length-decimal 1 c.args.number (omega arith) (omega arith) (omega arith)

pub returns-then-number-lt1000-clause-digits : goal.returns-then-number-lt1000-clause-digits
returns-then-number-lt1000-clause-digits c = scaled_decimal 2 5 c.args.number (omega arith) (omega arith) (omega arith)

pub returns-then-number-lt1000-clause-count : goal.returns-then-number-lt1000-clause-count
returns-then-number-lt1000-clause-count c = length-decimal 2 c.args.number (omega arith) (omega arith) (omega arith)

pub returns-else-number-lt1000-clause-digits : goal.returns-else-number-lt1000-clause-digits
returns-else-number-lt1000-clause-digits c = scaled_decimal 3 4 c.args.number (omega arith) (omega arith) (omega arith)

pub returns-else-number-lt1000-clause-count : goal.returns-else-number-lt1000-clause-count
returns-else-number-lt1000-clause-count c = length-decimal 3 c.args.number (omega arith) (omega arith) (omega arith)

pub returns-then-number-lt100000-clause-digits : goal.returns-then-number-lt100000-clause-digits
returns-then-number-lt100000-clause-digits c = scaled_decimal 4 3 c.args.number (omega arith) (omega arith) (omega arith)

pub returns-then-number-lt100000-clause-count : goal.returns-then-number-lt100000-clause-count
returns-then-number-lt100000-clause-count c = length-decimal 4 c.args.number (omega arith) (omega arith) (omega arith)

pub returns-else-number-lt100000-clause-digits : goal.returns-else-number-lt100000-clause-digits
returns-else-number-lt100000-clause-digits c = scaled_decimal 5 2 c.args.number (omega arith) (omega arith) (omega arith)

pub returns-else-number-lt100000-clause-count : goal.returns-else-number-lt100000-clause-count
returns-else-number-lt100000-clause-count c = length-decimal 5 c.args.number (omega arith) (omega arith) (omega arith)

pub returns-then-number-lt10000000-clause-digits : goal.returns-then-number-lt10000000-clause-digits
returns-then-number-lt10000000-clause-digits c = scaled_decimal 6 1 c.args.number (omega arith) (omega arith) (omega arith)

pub returns-then-number-lt10000000-clause-count : goal.returns-then-number-lt10000000-clause-count
returns-then-number-lt10000000-clause-count c = length-decimal 6 c.args.number (omega arith) (omega arith) (omega arith)

pub returns-else-number-lt10000000-clause-digits : goal.returns-else-number-lt10000000-clause-digits
returns-else-number-lt10000000-clause-digits c = scaled_decimal 7 0 c.args.number (omega arith) (omega arith) (omega arith)

pub returns-else-number-lt10000000-clause-count : goal.returns-else-number-lt10000000-clause-count
returns-else-number-lt10000000-clause-count c = length-decimal 7 c.args.number (omega arith) (omega arith) (omega arith)
