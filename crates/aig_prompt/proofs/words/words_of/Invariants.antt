use Rattle.std.proofs.Common.{◌≡◌, ◌++◌, length, map}
use Rattle.aig_names.specs.Names.{words}
use Rattle.aig_prompt.proofs.words.words_of.Given as goal

abbrev pub invariant-loop-first : goal.invariant-loop-first
invariant-loop-first l = map (λ word. word.now) l.list.items ++ words l.rest ≡ words l.line

abbrev pub decreases-loop-first : goal.decreases-loop-first
decreases-loop-first l = length l.rest
