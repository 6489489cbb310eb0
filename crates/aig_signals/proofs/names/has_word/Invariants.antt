use Rattle.std.proofs.Common.{◌≡◌, length}
use Rattle.aig_names.specs.Names.{words}
use Rattle.aig_signals.proofs.NameLemmas.{any_is}
use Rattle.aig_signals.proofs.names.has_word.Given as goal

abbrev pub invariant-loop-first : goal.invariant-loop-first
invariant-loop-first l = any_is l.name (words l.rest) ≡ any_is l.name (words l.text)

abbrev pub decreases-loop-first : goal.decreases-loop-first
decreases-loop-first l = length l.rest
