use Rattle.std.proofs.Common.{length}
use Rattle.aig_prompt.proofs.FoldLemmas.{FoldsFront}
use Rattle.aig_prompt.proofs.fold.push_folded.Given as goal

abbrev pub invariant-loop-first : goal.invariant-loop-first
invariant-loop-first l = FoldsFront l.line l.rest l.initial.text.items l.text.items l.folding.is_first

abbrev pub decreases-loop-first : goal.decreases-loop-first
decreases-loop-first l = length l.rest
