use Rattle.std.proofs.Common.{arith}
use Rattle.aig_signals.proofs.BitLemmas.{least_greatest, all_within}
use Rattle.aig_signals.proofs.bits.all_bits.Goals as goal

pub bits_between-requires-clause-order : goal.bits_between-requires-clause-order
bits_between-requires-clause-order c =
    omega (arith, c.least_index-first.ensures, c.greatest_index-last.ensures, least_greatest c.in-Some.bit.now c.in-Some.more.now)

pub bits_between-requires-clause-within : goal.bits_between-requires-clause-within
bits_between-requires-clause-within c =
    all_within c.args.bits.now c.in-Some.bit.now c.in-Some.more.now _ _ c.in-Some.ensures.cases.0 c.least_index-first.ensures
    c.greatest_index-last.ensures
