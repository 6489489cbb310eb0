use Rattle.std.proofs.Common.{◌≡◌, ◌↔◌, IsTrue, Some, slice_get, refl, sym, subst, arith}
use Rattle.aig_parts.specs.declared.latch.Latch.{Latch}
use Rattle.aig_base.proofs.lists.Items.{item_at}
use Rattle.aig_why.specs.Lines.{IsResetValue}
use Rattle.aig_why.proofs.StartLemmas.{starts}
use Rattle.aig_why.proofs.lines.starts.starts_by_reset.Goals as goal

pub returns : goal.returns
returns g c =
    let (l, at, v) = c.latch_value.ensures in
    let x = c.index-resets-position.result in
    let here : slice_get c.args.resets.now c.args.position ≡ Some x =
    item_at c.args.resets.now c.args.resets.now c.args.position x refl (omega (arith, c.requires.there, c.requires.size))
    c.index-resets-position.is in
    starts c.args.bench.now.pair c.width.ensures.circuit.sound c.args.resets.now c.args.position x l c.latch_value.result
    c.is_reset_value.result here at v
    (subst (λ (y : Latch). IsTrue c.is_reset_value.result ↔ IsResetValue y.reset c.latch_value.result)
    (sym c.index-resets-position.is) c.is_reset_value.ensures)
