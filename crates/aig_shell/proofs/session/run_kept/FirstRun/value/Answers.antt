use Rattle.std.proofs.Common.{◌≡◌, ℕ, List, Some, slice_get, sym, subst, ◌∙◌, arith, ap, length}
use Rattle.std.proofs.lemmas.Option.{slice_get_past}
use Rattle.aig_parts.specs.declared.ternary.Tern.{Tern}
use Rattle.aig_bench.specs.BenchState.{HasValue}
use Rattle.aig_base.proofs.lists.Items.{item_at}
use Rattle.aig_shell.proofs.tables.FirstRuns.{even_value, no_cell, none_copied, odd_value, some_copied}
use Rattle.std.proofs.lemmas.Bool.{false≢true}
use Rattle.aig_shell.proofs.session.run_kept.FirstRun.value.Goals as goal

pub returns-in_err-value-clause-none : goal.returns-in_err-value-clause-none
returns-in_err-value-clause-none c =
    let row = c.in_ok-row.row.now in
    let at = c.in_ok-row.ensures.lookup.3 in
    let here = item_at c.deref.result.now c.args.self.now.rows.items c.args.frame row c.deref.ensures.value at.0 (at.1 row) in
    let past = none_copied c.get-2.result _ _ (sym c.copied.ensures ∙ c.in_err-value.was) c.get-2.ensures.lookup.3 in
    rw c.from_residual-in_err-value.ensures (λ p k defined.
    absurd (no_cell c.args.self.now p k c.args.frame c.args.literal row here defined
    (slice_get_past row.items _ (omega (arith, past, c.var.ensures, ap length c.deref-2.ensures.value)))))

pub returns-then-is_neg-clause-some : goal.returns-then-is_neg-clause-some
returns-then-is_neg-clause-some c p k defined =
    let row = c.in_ok-row.row.now in
    let w = c.in_ok-value.value in
    let at = c.in_ok-row.ensures.lookup.3 in
    let here = item_at c.deref.result.now c.args.self.now.rows.items c.args.frame row c.deref.ensures.value at.0 (at.1 row) in
    let read = some_copied c.get-2.result _ c.deref-2.result.now c.var.result w (sym c.copied.ensures ∙ c.in_ok-value.was)
    c.get-2.ensures.lookup.3 in
    let cell = subst (λ (n : ℕ). slice_get row.items n ≡ Some w) c.var.ensures
    (subst (λ (xs : List Tern). slice_get xs c.var.result ≡ Some w) c.deref-2.ensures.value read) in
    subst (HasValue p c.args.frame c.args.literal) (sym c.not.ensures)
    (odd_value c.args.self.now p k c.args.frame c.args.literal row here defined w cell (c.is_neg.ensures.0 c.if-is_neg.true))

pub returns-else-is_neg-clause-some : goal.returns-else-is_neg-clause-some
returns-else-is_neg-clause-some c p k defined =
    let row = c.in_ok-row.row.now in
    let w = c.in_ok-value.value in
    let at = c.in_ok-row.ensures.lookup.3 in
    let here = item_at c.deref.result.now c.args.self.now.rows.items c.args.frame row c.deref.ensures.value at.0 (at.1 row) in
    let read = some_copied c.get-2.result _ c.deref-2.result.now c.var.result w (sym c.copied.ensures ∙ c.in_ok-value.was)
    c.get-2.ensures.lookup.3 in
    let cell = subst (λ (n : ℕ). slice_get row.items n ≡ Some w) c.var.ensures
    (subst (λ (xs : List Tern). slice_get xs c.var.result ≡ Some w) c.deref-2.ensures.value read) in
    even_value c.args.self.now p k c.args.frame c.args.literal row here defined w cell
    (λ odd. false≢true (sym c.if-is_neg.false ∙ c.is_neg.ensures.1 odd))
