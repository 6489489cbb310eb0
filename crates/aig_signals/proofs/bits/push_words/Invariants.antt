use Rattle.std.proofs.Common.{◌≡◌, ◌++◌, length, map}
use Rattle.std.specs.Prelude.{filter_map}
use Rattle.aig_names.specs.Names.{words}
use Rattle.aig_signals.specs.Bits.{word_bit}
use Rattle.aig_signals.specs.Names.{readable}
use Rattle.aig_signals.proofs.bits.push_words.Given as goal

abbrev pub invariant-loop-first : goal.invariant-loop-first
invariant-loop-first l =
    l.bits.items ++ filter_map (word_bit l.name l.literal) (map readable (words l.rest))
    ≡ l.fn.bits.items ++ filter_map (word_bit l.name l.literal) (map readable (words l.symbol))

abbrev pub decreases-loop-first : goal.decreases-loop-first
decreases-loop-first l = length l.rest
