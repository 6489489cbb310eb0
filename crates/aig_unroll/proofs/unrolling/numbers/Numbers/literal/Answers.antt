use Rattle.std.proofs.Common.{◌*◌, ◌∙◌, sym, ap, slice_index}
use Rattle.std.proofs.lemmas.Bool.{false≢true}
use Rattle.aig_parts.specs.Literal.{negation}
use Rattle.aig_base.specs.RenumberingTable.{literal_by}
use Rattle.aig_unroll.proofs.NumberedGates.{turned, straight}
use Rattle.aig_unroll.proofs.unrolling.numbers.Numbers.literal.Goals as goal

pub returns-then-is_neg : goal.returns-then-is_neg
unfolding literal_by
returns-then-is_neg c =
    c.not.ensures
    ∙ ap negation (c.new-positive.ensures
    ∙ ap (λ n. 2 * n) (c.get.ensures ∙ ap (slice_index c.args.self.now) c.var.ensures))
    ∙ sym (turned c.args.literal _ (c.is_neg.ensures.0 c.if-is_neg.true))

pub returns-else-is_neg : goal.returns-else-is_neg
unfolding literal_by
returns-else-is_neg c =
    c.new-positive.ensures ∙ ap (λ n. 2 * n) (c.get.ensures ∙ ap (slice_index c.args.self.now) c.var.ensures)
    ∙ sym (straight c.args.literal _ (λ h. false≢true (sym c.if-is_neg.false ∙ c.is_neg.ensures.1 h)))
