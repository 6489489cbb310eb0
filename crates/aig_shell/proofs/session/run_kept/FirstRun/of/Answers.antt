use Rattle.std.proofs.Common.{◌≡◌, ℕ, ◌+◌, ◌*◌, Some, length, slice_get, ap, sym, subst, ◌∙◌}
use Rattle.std.specs.Global.{Vec}
use Rattle.std.proofs.lemmas.List.{length_push}
use Rattle.std.proofs.lemmas.List.Elements.{All-push}
use Rattle.aig_parts.specs.declared.ternary.Tern.{Tern}
use Rattle.aig_base.specs.Sections.{IsDefined}
use Rattle.aig_bench.specs.BenchState.{HasValue}
use Rattle.aig_shell.proofs.tables.FirstRuns.{push_get}
use Rattle.aig_shell.proofs.session.run_kept.FirstRun.of.Goals as goal

pub loop-frame-preserved : goal.loop-frame-preserved
loop-frame-preserved c =
    let inv = c.loop-frame.invariant in
    let p = c.args.bench.now.pair in
    let items = c.loop-frame.rows.items in
    let new = c.in_ok-values_at.field-0 in
    rw c.in_ok-push.ensures.items (record {
      size = length_push items new ∙ ap (λ (n : ℕ). n + 1) inv.size;
      widths = All-push (λ (row : Vec Tern). length row.items ≡ p.circuit.max_var + 1) items new inv.widths c.in_ok-values_at.ensures.size;
      values = λ t v row w defined at cell.
          push_get (λ (t : ℕ) (row : Vec Tern). (v : ℕ) (w : Tern) → IsDefined p.circuit v → slice_get row.items v ≡ Some w → HasValue p t (2 * v) w)
          items new (λ k y here u x d is. inv.values k u y x d here is)
          (subst (λ (t : ℕ). (v : ℕ) (w : Tern) → IsDefined p.circuit v → slice_get new.items v ≡ Some w → HasValue p t (2 * v) w)
          (sym inv.size) c.in_ok-values_at.ensures.values) t row at v w defined cell;
    })
