use Rattle.std.proofs.Common.{◌≡◌, ◌*◌, ◌%◌, ◌∙◌, ℕ, sym, ap, refl, slice_index}
use Rattle.std.proofs.Common.{arith}
use Rattle.std.proofs.lemmas.Bool.{false≢true}
use Rattle.aig_parts.specs.Literal.{variable, negation, with_sign, IsNegated}
use Rattle.aig_base.specs.RenumberingTable.{literal_by}
use Rattle.aig_base.proofs.renumbering.parts.new_literal.Goals as goal

turned : (l k : ℕ) → IsNegated l → with_sign l k ≡ negation k
turned l k h = rw h refl

straight : (l k : ℕ) → (IsNegated l → ⊥) → with_sign l k ≡ k
straight l k h = let e : l % 2 ≡ 0 = omega arith in rw e refl

pub returns-then-is_neg : goal.returns-then-is_neg
unfolding literal_by
returns-then-is_neg c =
    c.not.ensures ∙ ap negation (c.new-positive.ensures ∙ ap (λ v. 2 * slice_index c.args.table.now v) c.var.ensures)
    ∙ sym (turned c.args.literal (2 * slice_index c.args.table.now (variable c.args.literal))
    (c.is_neg.ensures.0 c.if-is_neg.true))

pub returns-else-is_neg : goal.returns-else-is_neg
unfolding literal_by
returns-else-is_neg c =
    c.new-positive.ensures ∙ ap (λ v. 2 * slice_index c.args.table.now v) c.var.ensures
    ∙ sym (straight c.args.literal (2 * slice_index c.args.table.now (variable c.args.literal))
    (λ h. false≢true (sym c.if-is_neg.false ∙ c.is_neg.ensures.1 h)))
