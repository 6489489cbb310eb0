use Rattle.std.proofs.Common.{refl, sym}
use Rattle.std.proofs.lemmas.List.{get_or_read}
use Rattle.aig_base.proofs.lists.Evens.{in_order_more, in_order_no}
use Rattle.aig_base.proofs.check.binary_ready.inputs_in_order.Goals as goal

pub returns-then-not-is_even_of : goal.returns-then-not-is_even_of
returns-then-not-is_even_of c =
    in_order_no c.args.inputs.now _ c.args.first c.loop-place.place c.index-inputs-place.result c.is_even_of.result
    refl c.loop-place-test.true
    (sym (get_or_read c.args.inputs.now _ _ c.loop-place-test.true c.index-inputs-place.is 0)) c.is_even_of.ensures
    c.if-not-is_even_of.true

pub loop-place-preserved : goal.loop-place-preserved
loop-place-preserved c =
    in_order_more c.args.inputs.now _ c.args.first c.loop-place.place c.index-inputs-place.result
    c.is_even_of.result refl c.loop-place-test.true
    (sym (get_or_read c.args.inputs.now _ _ c.loop-place-test.true c.index-inputs-place.is 0)) c.is_even_of.ensures
    c.if-not-is_even_of.false c.loop-place.invariant
