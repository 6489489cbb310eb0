use Rattle.std.proofs.Common.{◌∙◌, sym, ap, slice_index}
use Rattle.std.proofs.lemmas.Bool.{false≢true}
use Rattle.aig_parts.specs.Literal.{negation}
use Rattle.aig_unroll.specs.state.FrameTable.{literal_at, number_literal}
use Rattle.aig_unroll.proofs.NumberedGates.{turned, straight}
use Rattle.aig_unroll.proofs.unrolling.frame_literals.literal_at.Goals as goal

pub returns-then-is_neg : goal.returns-then-is_neg
unfolding literal_at
returns-then-is_neg c =
    c.not.ensures ∙ ap negation (c.number_literal-positive.ensures
    ∙ ap (number_literal c.args.plan.now c.args.frame.now)
    (c.get.ensures ∙ ap (slice_index c.args.plan.now.numbers) c.var.ensures))
    ∙ sym (turned c.args.literal _ (c.is_neg.ensures.0 c.if-is_neg.true))

pub returns-else-is_neg : goal.returns-else-is_neg
unfolding literal_at
returns-else-is_neg c =
    c.number_literal-positive.ensures
    ∙ ap (number_literal c.args.plan.now c.args.frame.now)
    (c.get.ensures ∙ ap (slice_index c.args.plan.now.numbers) c.var.ensures)
    ∙ sym (straight c.args.literal _ (λ h. false≢true (sym c.if-is_neg.false ∙ c.is_neg.ensures.1 h)))
