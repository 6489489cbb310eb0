use Rattle.std.proofs.Common.{◌≡◌, Some, slice_get, length, ap, ◌∙◌, subst, arith}
use Rattle.aig_parts.specs.Literal.{variable}
use Rattle.aig_parts.specs.declared.raw.Raw.{Raw}
use Rattle.aig_base.specs.state.Marks.{IsMarked}
use Rattle.aig_base.proofs.lists.Items.{item_at}
use Rattle.aig_bench.proofs.cells.CellLemmas.{frames_written}
use Rattle.aig_values.specs.InputRows.{InputRows}
use Rattle.aig_reduce.proofs.NeededLemmas.{input_kept}
use Rattle.aig_reduce.proofs.needed.kept.keep_inputs.Goals as goal

pub loop-position-preserved : goal.loop-position-preserved
loop-position-preserved g c =
    let p = c.args.bench.now.pair in
    let inv = c.loop-position.invariant in
    let old = c.loop-position.rows.rows in
    let same = c.inputs.ensures ∙ ap (λ (r : Raw). r.inputs) c.circuit.ensures in
    let i = c.loop-position.position in
    let l = c.index-inputs-position.result in
    let at : slice_get p.circuit.inputs i ≡ Some l =
    item_at _ _ i l same (omega (arith, c.loop-position-test.true, c.width-position-end.ensures.width, ap length same)) c.index-inputs-position.is in
    let marked = subst (IsMarked c.args.marks.now) c.var.ensures (c.is_marked.ensures c.if-not-is_marked.false) in
    record {
      width = ap (λ (r : InputRows). r.width) c.set.ensures ∙ inv.width;
      rows = ap (λ (r : InputRows). length r.rows) c.set.ensures ∙ frames_written old c.args.frame i c.get.result ∙ inv.rows;
      needed = λ property marks all.
          input_kept p c.width-position-end.ensures.circuit c.width-position-end.ensures.rows property old c.set.new.self.rows c.args.frame i l
          c.get.result (ap (λ (r : InputRows). r.rows) c.set.ensures) (omega (arith, c.requires.frame, c.requires.rows, inv.rows)) at
          (marks (variable l) marked) (inv.needed property marks all);
    }
