use Rattle.std.proofs.Common.{Bool, sym, subst}
use Rattle.aig_prompt.proofs.FoldLemmas.{FoldsFront, front_more, front_whole}
use Rattle.aig_prompt.proofs.fold.push_folded.Goals as goal

pub loop-first-preserved : goal.loop-first-preserved
loop-first-preserved c =
    subst (λ (first : Bool). FoldsFront c.args.line.now c.in-Some.first.rest.now c.args.text.now.items c.push_word.new.text.items first)
    (sym c.push_word.ensures.first)
    (front_more c.args.line.now c.loop-first.rest.now c.in-Some.first.word.now c.in-Some.first.rest.now c.args.text.now.items _ _
    c.loop-first.folding.is_first c.in-Some.ensures.0 c.loop-first.invariant c.in_ok-push_word.ensures.word)

pub returns : goal.returns
returns c =
    front_whole c.args.line.now c.loop-first.rest.now c.args.text.now.items _ _ c.loop-first.folding.is_first c.in_default.ensures
    c.loop-first.invariant c.in_ok-push.ensures.items
