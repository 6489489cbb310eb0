use Rattle.std.proofs.Common.{arith}
use Rattle.aig_bytes.proofs.DigitLemmas.{length-decimal}
use Rattle.aig_bytes.proofs.digits.long_count.Goals as goal

pub returns-then-number-lt1000000000-clause-digits : goal.returns-then-number-lt1000000000-clause-digits
returns-then-number-lt1000000000-clause-digits c = length-decimal 8 c.args.number (omega (arith, c.requires)) (omega arith) (omega arith)

pub returns-else-number-lt1000000000-clause-digits : goal.returns-else-number-lt1000000000-clause-digits
returns-else-number-lt1000000000-clause-digits c = length-decimal 9 c.args.number (omega arith) (omega (arith, c.ranges.number.fits)) (omega (arith, c.ranges.number.fits))
