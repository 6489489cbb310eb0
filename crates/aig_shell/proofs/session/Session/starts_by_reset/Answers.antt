use Rattle.std.proofs.Common.{◌≤◌, length, refl, sym, ap, ◌∙◌, arith}
use Rattle.std.proofs.lemmas.Bool.{false≢true}
use Rattle.aig_parts.specs.declared.raw.Raw.{Raw}
use Rattle.aig_base.proofs.lists.Items.{item_at}
use Rattle.aig_shell.proofs.tables.FirstRuns.{other_value, same_value}
use Rattle.aig_shell.proofs.reached.Starting.{same_size, same_start_more, starts_differ, starts_same}
use Rattle.aig_shell.proofs.session.Session.starts_by_reset.Goals as goal

pub loop-place-preserved : goal.loop-place-preserved
loop-place-preserved c =
    let s = c.args.self.now in
    let i = c.loop-place.place in
    let own = c.index-own-place.result in
    let now = c.index-now-place.result in
    let at = item_at c.as_slice-own.result.now s.run.latches.items i own c.as_slice-own.ensures.value
    (omega (arith, c.loop-place-test.true, c.min-place-end.ensures)) c.index-own-place.is in
    let stands = item_at c.latches-now.result.now s.run.bench.pair.circuit.latches i now
    (c.latches-now.ensures ∙ ap (λ (r : Raw). r.latches) c.circuit-circuit.ensures)
    (omega (arith, c.loop-place-test.true, c.min-place-end.ensures)) c.index-now-place.is in
    same_start_more s i own now at stands
    (sym c.first_value-start.ensures ∙ same_value _ _ c.ne.result c.ne.ensures c.if-ne.false ∙ c.first_value-reset.ensures) c.loop-place.invariant

pub returns-then-ne : goal.returns-then-ne
returns-then-ne c =
    let s = c.args.self.now in
    let i = c.loop-place.place in
    let own = c.index-own-place.result in
    let now = c.index-now-place.result in
    let at = item_at c.as_slice-own.result.now s.run.latches.items i own c.as_slice-own.ensures.value
    (omega (arith, c.loop-place-test.true, c.min-place-end.ensures)) c.index-own-place.is in
    let stands = item_at c.latches-now.result.now s.run.bench.pair.circuit.latches i now
    (c.latches-now.ensures ∙ ap (λ (r : Raw). r.latches) c.circuit-circuit.ensures)
    (omega (arith, c.loop-place-test.true, c.min-place-end.ensures)) c.index-now-place.is in (
      λ t. absurd (false≢true t),
      λ e. absurd (starts_differ s i own now at stands (λ same. other_value _ _ c.ne.result c.ne.ensures c.if-ne.true
          (c.first_value-start.ensures ∙ same ∙ sym c.first_value-reset.ensures)) e),
    )

pub returns : goal.returns
returns c =
    let s = c.args.self.now in
    let same = c.latches-now.ensures ∙ ap (λ (r : Raw). r.latches) c.circuit-circuit.ensures in
    let le : length s.run.latches.items ≤ c.loop-place.place =
    omega (arith, c.loop-place-test.false, c.min-place-end.ensures, ap length c.as_slice-own.ensures.value, ap length same, same_size s) in
    (λ t. starts_same s c.loop-place.place le c.loop-place.invariant, λ e. refl)
