use Rattle.std.proofs.Common.{◌≡◌, ℕ, suc, ◌+◌, ◌++◌, take, drop, length, get_or, Some, slice_get, refl, sym, ap, ◌∙◌}
use Rattle.std.proofs.Common.{subst, arith}
use Rattle.std.proofs.lemmas.Option.{slice_get-get_or}
use Rattle.aig_parts.specs.declared.latch.Latch.{Latch}
use Rattle.aig_parts.specs.declared.ternary.Tern.TheVariants.{Zero}
use Rattle.aig_base.specs.Changes.{with_reset}
use Rattle.aig_base.specs.Value.{start_of}
use Rattle.aig_base.proofs.lists.Items.{item_at}
use Rattle.aig_base.specs.Resets.{HasOtherResets}
use Rattle.aig_base.proofs.values.Resets.{latches_length, no_other_resets, other_reset_more, start_more}
use Rattle.aig_base.proofs.change.start.start_at.Goals as goal

pub loop-position-init : goal.loop-position-init
loop-position-init c = record { resets = no_other_resets c.args.circuit.now; start = refl }

pub loop-position-preserved : goal.loop-position-preserved
loop-position-preserved c =
    let raw = c.args.circuit.now in
    let now = c.loop-position.circuit in
    let i = c.loop-position.position in
    let y = c.index-latches-position.result in
    let w = get_or c.args.start.now i Zero in
    let inv = c.loop-position.invariant in
    let e = c.replace_reset.ensures ∙ ap (λ (x : Latch). with_reset now x.lit w) (sym c.index-latches-position.is) in
    let size = latches_length raw now inv.resets in
    let here : slice_get now.latches i ≡ Some y =
    item_at c.latches.result.now now.latches i y c.latches.ensures
    (omega (arith, ap length c.latches.ensures, size, c.requires, c.loop-position-test.true)) c.index-latches-position.is in
    let given : slice_get c.args.start.now i ≡ Some w =
    slice_get-get_or c.args.start.now i Zero c.loop-position-test.true in
    let next : suc i ≡ i + 1 = omega arith in
    record {
      resets = subst (HasOtherResets raw) (sym e) (other_reset_more raw now y.lit w inv.resets);
      start =
          ap start_of e
          ∙ subst (λ (n : ℕ). start_of (with_reset now y.lit w) ≡ take n c.args.start.now ++ drop n (start_of raw)) next
          (start_more raw now c.args.start.now y.lit w i y c.facts.ensures.sound c.requires inv.start here refl given);
    }
