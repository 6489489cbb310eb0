use Rattle.std.proofs.Common.{◌≡◌, Some, slice_get, ap, ◌∙◌, subst}
use Rattle.aig_parts.specs.Literal.{variable}
use Rattle.aig_parts.specs.declared.raw.Raw.{Raw}
use Rattle.aig_base.specs.state.Marks.{IsMarked}
use Rattle.aig_base.proofs.lists.Items.{item_at}
use Rattle.aig_reduce.proofs.NeededLemmas.{next_needed, one_added}
use Rattle.aig_reduce.proofs.needed.marking.mark_latches.Goals as goal

pub loop-latch-init : goal.loop-latch-init
loop-latch-init g c = λ property t h n. n

pub loop-latch-preserved : goal.loop-latch-preserved
loop-latch-preserved g c = λ property t h n.
    let p = c.args.bench.now.pair in
    let same = c.latches-latch-items.ensures ∙ ap (λ (r : Raw). r.latches) c.circuit.ensures in
    let i = c.loop-latch.latch-index in
    let x = c.latch-item.result in
    let at : slice_get p.circuit.latches i ≡ Some x = item_at _ _ i x same c.loop-latch-test.true c.latch-item.is in
    let marked = subst (IsMarked c.args.ahead.now) c.var.ensures (c.is_marked.ensures c.if-not-is_marked.false) in
    one_added p property t (variable x.next) c.loop-latch.marks.items c.mark.new.marks.items c.mark.ensures
    (λ _. next_needed p c.width.ensures.circuit c.width.ensures.rows property t i x at (h (variable x.lit) marked))
    (c.loop-latch.invariant property t h n)

pub returns : goal.returns
returns g c = c.loop-latch.invariant
