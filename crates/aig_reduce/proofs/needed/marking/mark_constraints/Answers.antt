use Rattle.std.proofs.Common.{◌≡◌, Some, slice_get, ap, ◌∙◌}
use Rattle.aig_parts.specs.Literal.{variable}
use Rattle.aig_parts.specs.declared.raw.Raw.{Raw}
use Rattle.aig_base.proofs.lists.Items.{item_at}
use Rattle.aig_reduce.proofs.NeededLemmas.{constraint_needed, one_added}
use Rattle.aig_reduce.proofs.needed.marking.mark_constraints.Goals as goal

pub loop-literal-init : goal.loop-literal-init
loop-literal-init g c = λ property t lt n. n

pub loop-literal-preserved : goal.loop-literal-preserved
loop-literal-preserved g c = λ property t lt n.
    let p = c.args.bench.now.pair in
    let same = c.constraints-literal-items.ensures ∙ ap (λ (r : Raw). r.constraints) c.circuit.ensures in
    let i = c.loop-literal.literal-index in
    let l = c.literal-item.result in
    let at : slice_get p.circuit.constraints i ≡ Some l = item_at _ _ i l same c.loop-literal-test.true c.literal-item.is in
    one_added p property t (variable l) c.loop-literal.marks.items c.mark.new.marks.items c.mark.ensures
    (λ _. constraint_needed p c.width.ensures.circuit c.width.ensures.rows property t i l lt at)
    (c.loop-literal.invariant property t lt n)

pub returns : goal.returns
returns g c = c.loop-literal.invariant
