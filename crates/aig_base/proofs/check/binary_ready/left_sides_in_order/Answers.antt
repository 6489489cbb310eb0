use Rattle.std.proofs.Common.{◌∙◌, sym, ap, map}
use Rattle.std.proofs.lemmas.List.{length-map, get_or-map}
use Rattle.aig_base.proofs.lists.Evens.{in_order_more, in_order_no}
use Rattle.aig_base.proofs.check.binary_ready.left_sides_in_order.Goals as goal

pub returns-then-not-is_even_of : goal.returns-then-not-is_even_of
returns-then-not-is_even_of c =
    in_order_no (map (λ g. g.lhs) c.args.gates.now) _ c.args.first c.loop-place.place c.index-gates-place.result.lhs
    c.is_even_of.result (length-map c.args.gates.now (λ g. g.lhs)) c.loop-place-test.true
    (get_or-map (λ g. g.lhs) c.args.gates.now _ c.index-gates-place.result 0 c.loop-place-test.true
    ∙ ap (λ g. g.lhs) (sym c.index-gates-place.is)) c.is_even_of.ensures c.if-not-is_even_of.true

pub loop-place-preserved : goal.loop-place-preserved
loop-place-preserved c =
    in_order_more (map (λ g. g.lhs) c.args.gates.now) _ c.args.first c.loop-place.place
    c.index-gates-place.result.lhs c.is_even_of.result (length-map c.args.gates.now (λ g. g.lhs))
    c.loop-place-test.true
    (get_or-map (λ g. g.lhs) c.args.gates.now _ c.index-gates-place.result 0 c.loop-place-test.true
    ∙ ap (λ g. g.lhs) (sym c.index-gates-place.is)) c.is_even_of.ensures c.if-not-is_even_of.false
    c.loop-place.invariant
