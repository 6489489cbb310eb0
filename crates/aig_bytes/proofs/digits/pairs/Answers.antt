use Rattle.std.proofs.Common.{◌/◌, ◌%◌, arith}
use Rattle.aig_bytes.proofs.PairLemmas.{hundreds_of}
use Rattle.aig_bytes.proofs.digits.pairs.Goals as goal

pub overflow_sub-result : goal.overflow_sub-result
overflow_sub-result c = omega (arith, hundreds_of (c.args.number / 10000) (c.args.number % 10000) (omega (arith, c.requires)) (omega arith))

pub returns : goal.returns
returns c = omega (arith, hundreds_of (c.args.number / 10000) (c.args.number % 10000) (omega (arith, c.requires)) (omega arith))
