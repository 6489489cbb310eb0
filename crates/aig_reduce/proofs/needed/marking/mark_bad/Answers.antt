use Rattle.std.proofs.Common.{◌≡◌, length, Some, slice_get, ap, ◌∙◌, arith}
use Rattle.aig_parts.specs.Literal.{variable}
use Rattle.aig_parts.specs.declared.raw.Raw.{Raw}
use Rattle.aig_base.proofs.lists.Items.{item_at}
use Rattle.aig_reduce.proofs.NeededLemmas.{bad_needed, one_added}
use Rattle.aig_reduce.proofs.needed.marking.mark_bad.Goals as goal

pub returns : goal.returns
returns g c =
    let p = c.args.bench.now.pair in
    let same = c.bad.ensures ∙ ap (λ (r : Raw). r.bad) c.circuit.ensures in
    let l = c.index-bad-property.result in
    let at : slice_get p.circuit.bad c.args.property ≡ Some l =
    item_at _ _ c.args.property l same (omega (arith, c.requires.property, ap length same)) c.index-bad-property.is in
    one_added p c.args.property c.args.frame (variable l) c.args.marks.now.items c.mark.new.marks.items c.mark.ensures
    (λ _. bad_needed p c.width.ensures.circuit c.width.ensures.rows c.args.property c.args.frame l
    (omega (arith, c.requires.frame, c.frames.ensures, c.if-frame-frames.false)) at)
