use Rattle.std.proofs.Common.{◌≡◌, ◌+◌, ℕ, List, Some, slice_get, ap, ◌∙◌, length, subst, sym}
use Rattle.std.proofs.lemmas.List.{length-replicate, length_push}
use Rattle.aig_parts.specs.declared.ternary.Tern.{Tern}
use Rattle.aig_parts.specs.declared.ternary.Tern.TheVariants.{X}
use Rattle.aig_values.specs.InputRows.{InputRows, row_at}
use Rattle.aig_reduce.proofs.NeededLemmas.{none_there, x_alone, x_more}
use Rattle.aig_reduce.proofs.needed.kept.rows_of_x.Goals as goal

pub loop-frame-init : goal.loop-frame-init
loop-frame-init c = record {
  width = ap (λ (r : InputRows). r.width) c.new-rows.ensures;
  count = ap (λ (r : InputRows). length r.rows) c.new-rows.ensures;
  unknown = λ t i w at.
      none_there t i w (subst (λ (r : InputRows). slice_get (row_at r.rows t) i ≡ Some w) c.new-rows.ensures at);
}

pub push-requires-clause-width : goal.push-requires-clause-width
push-requires-clause-width c =
    ap length (c.deref.ensures.value ∙ c.in_ok-row.ensures) ∙ length-replicate {A = Tern} c.args.width X
    ∙ sym c.loop-frame.invariant.width

pub loop-frame-preserved : goal.loop-frame-preserved
loop-frame-preserved c =
    let is = c.in_ok-push.ensures.ok in
    let rows_is = ap (λ (r : InputRows). r.rows) is in
    let row = c.deref.result.now in
    let inv = c.loop-frame.invariant in
    record {
      width = ap (λ (r : InputRows). r.width) is ∙ inv.width;
      count = ap length rows_is ∙ length_push c.loop-frame.rows.rows row ∙ ap (λ (n : ℕ). n + 1) inv.count;
      unknown = λ t i w at.
          x_more c.loop-frame.rows.rows row inv.unknown
          (λ j v here. x_alone c.args.width j v row (c.deref.ensures.value ∙ c.in_ok-row.ensures) here) t i w
          (subst (λ (rows : List (List Tern)). slice_get (row_at rows t) i ≡ Some w) rows_is at);
    }

pub returns-clause-unknown : goal.returns-clause-unknown
returns-clause-unknown c = c.loop-frame.invariant.unknown
