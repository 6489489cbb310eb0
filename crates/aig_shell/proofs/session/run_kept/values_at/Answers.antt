use Rattle.std.proofs.Common.{ℕ, ◌+◌, ◌*◌, ap, arith, sym, subst, ◌∙◌}
use Rattle.std.proofs.lemmas.List.{length_push}
use Rattle.aig_parts.specs.declared.ternary.Tern.{Tern}
use Rattle.aig_base.specs.Sections.{IsDefined}
use Rattle.aig_bench.specs.BenchState.{HasValue}
use Rattle.aig_shell.proofs.tables.FirstRuns.{push_get}
use Rattle.aig_shell.proofs.session.run_kept.values_at.Goals as goal

pub loop-variable-preserved : goal.loop-variable-preserved
loop-variable-preserved c =
    let inv = c.loop-variable.invariant in
    let p = c.args.bench.now.pair in
    let items = c.loop-variable.values.items in
    rw c.in_ok-push.ensures.items (record {
      size = length_push items c.value_of.result ∙ ap (λ (n : ℕ). n + 1) inv.size;
      within = omega (arith, c.loop-variable-test.true);
      values = λ v w defined at.
          push_get (λ (u : ℕ) (x : Tern). IsDefined p.circuit u → HasValue p c.args.frame (2 * u) x) items c.value_of.result
          (λ k y here d. inv.values k y d here)
          (subst (λ (u : ℕ). IsDefined p.circuit u → HasValue p c.args.frame (2 * u) c.value_of.result) (sym inv.size) c.value_of.ensures)
          v w at defined;
    })
