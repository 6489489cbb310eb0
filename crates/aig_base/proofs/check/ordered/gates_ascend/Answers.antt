use Rattle.std.proofs.Common.{◌∙◌, ℕ, get_or, sym, ap, subst, map}
use Rattle.std.proofs.lemmas.Bool.{false≢true}
use Rattle.std.proofs.lemmas.List.{length-map, get_or-map, get_or_default}
use borrow.Author.Count.{below_more}
use Rattle.aig_base.proofs.lists.Evens.{in_order_more, in_order_no}
use Rattle.aig_base.specs.state.LeastFaulty.{ReadsSmaller}
use Rattle.aig_base.proofs.check.ordered.gates_ascend.Goals as goal

pub returns-then-not-is_even_of : goal.returns-then-not-is_even_of
returns-then-not-is_even_of c =
    let no = in_order_no (map (λ g. g.lhs) c.args.gates.now) _ c.args.first c.loop-place.place
    c.index-gates-place.result.lhs c.is_even_of.result (length-map c.args.gates.now (λ g. g.lhs))
    c.loop-place-test.true
    (get_or-map (λ g. g.lhs) c.args.gates.now _ c.index-gates-place.result 0 c.loop-place-test.true
    ∙ ap (λ g. g.lhs) (sym c.index-gates-place.is)) c.is_even_of.ensures c.if-not-is_even_of.true in
    (λ h. absurd (false≢true h), λ both. no.1 both.0)

pub returns-then-not-reads_below : goal.returns-then-not-reads_below
returns-then-not-reads_below c = (
  λ h. absurd (false≢true h),
  λ both. absurd (false≢true (sym c.if-not-reads_below.true
      ∙ c.reads_below.ensures.1 (subst ReadsSmaller (sym c.index-gates-place.is)
      (both.1 c.loop-place.place c.index-gates-place.result c.loop-place-test.true)))),
)

pub loop-place-preserved : goal.loop-place-preserved
loop-place-preserved c = record {
  order = in_order_more (map (λ g. g.lhs) c.args.gates.now) _ c.args.first c.loop-place.place
      c.index-gates-place.result.lhs c.is_even_of.result (length-map c.args.gates.now (λ g. g.lhs))
      c.loop-place-test.true
      (get_or-map (λ g. g.lhs) c.args.gates.now _ c.index-gates-place.result 0 c.loop-place-test.true
      ∙ ap (λ g. g.lhs) (sym c.index-gates-place.is)) c.is_even_of.ensures c.if-not-is_even_of.false
      c.loop-place.invariant.order;
  smaller = λ k d lt. below_more (λ (j : ℕ). ReadsSmaller (get_or c.args.gates.now j d)) c.loop-place.place
      (λ j below. c.loop-place.invariant.smaller j d below)
      (subst ReadsSmaller (c.index-gates-place.is ∙ get_or_default c.args.gates.now c.loop-place.place _ d
      c.loop-place-test.true)
      (c.reads_below.ensures.0 c.if-not-reads_below.false)) k lt;
}
