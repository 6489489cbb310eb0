use Rattle.std.proofs.Common.{◌≡◌, Some, slice_get, length, ap, ◌∙◌, arith}
use Rattle.aig_parts.specs.declared.raw.Raw.{Raw}
use Rattle.aig_base.proofs.lists.Items.{item_at}
use Rattle.aig_reduce.proofs.NeededLemmas.{input_follows}
use Rattle.aig_reduce.proofs.spread.input_at.Goals as goal

pub returns : goal.returns
returns g c = λ property t.
    let p = c.args.bench.now.pair in
    let same = c.inputs.ensures ∙ ap (λ (r : Raw). r.inputs) c.circuit.ensures in
    let i = c.args.position in
    let l = c.index-inputs-position.result in
    let here : slice_get p.circuit.inputs i ≡ Some l =
    item_at _ _ i l same (omega (arith, c.requires, ap length same)) c.index-inputs-position.is in
    input_follows p c.width.ensures.circuit c.width.ensures.rows property t i l here
