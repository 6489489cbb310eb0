use Rattle.std.proofs.Common.{[], ◌∷◌, ◌++◌, sym, ◌∙◌}
use Rattle.aig_format.proofs.Evens.{evens_more}
use Rattle.aig_format.proofs.reader.binary.inputs.Goals as goal

pub loop-i-preserved : goal.loop-i-preserved
loop-i-preserved c =
    c.in_ok-push.ensures.ok ∙ (λ j. c.loop-i.invariant j ++ c.new.ensures j ∷ []) ∙ sym (evens_more c.loop-i.i)
