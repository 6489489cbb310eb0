use Rattle.std.proofs.Common.{◌∙◌, sym, ap, map}
use Rattle.std.proofs.lemmas.List.{length-map, get_or-map}
use Rattle.aig_base.proofs.lists.Evens.{in_order_more, in_order_no}
use Rattle.aig_base.proofs.check.binary_ready.latches_in_order.Goals as goal

pub returns-then-not-is_even_of : goal.returns-then-not-is_even_of
returns-then-not-is_even_of c =
    in_order_no (map (λ x. x.lit) c.args.latches.now) _ c.args.first c.loop-place.place
    c.index-latches-place.result.lit c.is_even_of.result (length-map c.args.latches.now (λ x. x.lit))
    c.loop-place-test.true
    (get_or-map (λ x. x.lit) c.args.latches.now _ c.index-latches-place.result 0 c.loop-place-test.true
    ∙ ap (λ x. x.lit) (sym c.index-latches-place.is)) c.is_even_of.ensures c.if-not-is_even_of.true

pub loop-place-preserved : goal.loop-place-preserved
loop-place-preserved c =
    in_order_more (map (λ x. x.lit) c.args.latches.now) _ c.args.first c.loop-place.place
    c.index-latches-place.result.lit c.is_even_of.result (length-map c.args.latches.now (λ x. x.lit))
    c.loop-place-test.true
    (get_or-map (λ x. x.lit) c.args.latches.now _ c.index-latches-place.result 0 c.loop-place-test.true
    ∙ ap (λ x. x.lit) (sym c.index-latches-place.is)) c.is_even_of.ensures c.if-not-is_even_of.false
    c.loop-place.invariant
