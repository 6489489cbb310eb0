use Rattle.std.proofs.Common.{◌≡◌, Some, slice_get, length, ap, ◌∙◌, arith}
use Rattle.aig_parts.specs.declared.latch.Latch.{Latch}
use Rattle.aig_parts.specs.declared.raw.Raw.{Raw}
use Rattle.aig_base.proofs.lists.Items.{item_at}
use Rattle.aig_reduce.proofs.NeededLemmas.{start_follows}
use Rattle.aig_reduce.proofs.spread.Spread.start_breaks.Goals as goal

pub returns : goal.returns
returns g c = λ yes.
    let p = c.args.bench.now.pair in
    let same = c.latches-latches.ensures ∙ ap (λ (r : Raw). r.latches) c.circuit.ensures in
    let i = c.args.position in
    let x = c.index-latches-position.result in
    let here : slice_get p.circuit.latches i ≡ Some x =
    item_at _ _ i x same (omega (arith, c.if-position-latches.false, ap length same)) c.index-latches-position.is in
    let (v, w, n, at, follows) = c.reaches_needed.ensures yes in (
      0,
      v,
      w,
      n,
      at,
      λ property. follows property 0 i (start_follows p c.width.ensures.circuit c.width.ensures.rows property i x here),
    )
