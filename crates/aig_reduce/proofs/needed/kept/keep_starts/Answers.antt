use Rattle.std.proofs.Common.{◌≡◌, Some, slice_get, length, ap, ◌∙◌, subst, arith}
use Rattle.std.proofs.lemmas.List.{length-set}
use Rattle.aig_parts.specs.Literal.{variable}
use Rattle.aig_parts.specs.declared.raw.Raw.{Raw}
use Rattle.aig_base.specs.state.Marks.{IsMarked}
use Rattle.aig_base.proofs.lists.Items.{item_at}
use Rattle.aig_reduce.proofs.NeededLemmas.{start_kept}
use Rattle.aig_reduce.proofs.needed.kept.keep_starts.Goals as goal

pub loop-position-preserved : goal.loop-position-preserved
loop-position-preserved g c =
    let p = c.args.bench.now.pair in
    let inv = c.loop-position.invariant in
    let old = c.loop-position.start.items in
    let same = c.latches.ensures ∙ ap (λ (r : Raw). r.latches) c.circuit.ensures in
    let i = c.loop-position.position in
    let x = c.index-latches-position.result in
    let at : slice_get p.circuit.latches i ≡ Some x =
    item_at _ _ i x same (omega (arith, c.loop-position-test.true, c.requires, ap length same)) c.index-latches-position.is in
    let marked = subst (IsMarked c.args.marks.now) c.var.ensures (c.is_marked.ensures c.if-not-is_marked.false) in
    record {
      size = length-set old i c.first_value.result ∙ inv.size;
      needed = λ property marks all.
          start_kept p c.width.ensures.circuit c.width.ensures.rows property old i x c.first_value.result at
          (marks (variable x.lit) marked) (inv.needed property marks all);
    }
