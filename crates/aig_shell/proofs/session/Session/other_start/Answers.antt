use Rattle.std.proofs.Common.{◌≤◌, inl, inr, length, Some, sym, ap, ◌∙◌, arith}
use Rattle.std.proofs.lemmas.Bool.{false≢true}
use Rattle.aig_parts.specs.declared.raw.Raw.{Raw}
use Rattle.aig_base.specs.Value.{reset_value, start_of}
use Rattle.aig_base.proofs.values.AllowedStarts.{allowed_or_not}
use Rattle.aig_sim.specs.Verdict.{StartsWrong}
use Rattle.aig_sim.proofs.VerdictLemmas.{no_latch_after, right_more}
use Rattle.aig_base.proofs.lists.Items.{item_at}
use Rattle.aig_shell.specs.Session.{own_circuit}
use Rattle.aig_shell.proofs.reached.Starting.{right_start, same_size, start_is, wrong_start}
use Rattle.aig_shell.proofs.session.Session.other_start.Goals as goal

pub returns-then-starts_elsewhere-clause-some : goal.returns-then-starts_elsewhere-clause-some
returns-then-starts_elsewhere-clause-some c =
    let s = c.args.self.now in
    let i = c.loop-place.place in
    let own = c.index-own-place.result in
    let now = c.index-now-place.result in
    let at = item_at c.as_slice-own.result.now s.run.latches.items i own c.as_slice-own.ensures.value
    (omega (arith, c.loop-place-test.true, c.min-place-end.ensures)) c.index-own-place.is in
    let stands = item_at c.latches-now.result.now s.run.bench.pair.circuit.latches i now
    (c.latches-now.ensures ∙ ap (λ (r : Raw). r.latches) c.circuit-circuit.ensures)
    (omega (arith, c.loop-place-test.true, c.min-place-end.ensures)) c.index-now-place.is in
    let value = c.index-now-place-then-starts_elsewhere.result in
    let same = item_at c.latches-now.result.now s.run.bench.pair.circuit.latches i value
    (c.latches-now.ensures ∙ ap (λ (r : Raw). r.latches) c.circuit-circuit.ensures)
    (omega (arith, c.loop-place-test.true, c.min-place-end.ensures)) c.index-now-place-then-starts_elsewhere.is in
    record {
      wrong = wrong_start s i own now at stands (c.starts_elsewhere.ensures.0 c.if-starts_elsewhere.true);
      value_is = start_is s i own value at same ∙ ap Some (sym c.first_value.ensures);
      before = c.loop-place.invariant;
    }

pub loop-place-preserved : goal.loop-place-preserved
loop-place-preserved c =
    let s = c.args.self.now in
    let i = c.loop-place.place in
    let own = c.index-own-place.result in
    let now = c.index-now-place.result in
    let at = item_at c.as_slice-own.result.now s.run.latches.items i own c.as_slice-own.ensures.value
    (omega (arith, c.loop-place-test.true, c.min-place-end.ensures)) c.index-own-place.is in
    let stands = item_at c.latches-now.result.now s.run.bench.pair.circuit.latches i now
    (c.latches-now.ensures ∙ ap (λ (r : Raw). r.latches) c.circuit-circuit.ensures)
    (omega (arith, c.loop-place-test.true, c.min-place-end.ensures)) c.index-now-place.is in
    right_more (StartsWrong (own_circuit s) (start_of s.run.bench.pair.circuit)) i c.loop-place.invariant
    (elim (allowed_or_not own (reset_value now.reset)) [
      | inl allowed ↦ right_start s i own now at stands allowed
      | inr not ↦ absurd (false≢true (sym c.if-starts_elsewhere.false ∙ c.starts_elsewhere.ensures.1 not))
    ])

pub returns-clause-none : goal.returns-clause-none
returns-clause-none c =
    let s = c.args.self.now in
    let same = c.latches-now.ensures ∙ ap (λ (r : Raw). r.latches) c.circuit-circuit.ensures in
    let le : length s.run.latches.items ≤ c.loop-place.place =
    omega (arith, c.loop-place-test.false, c.min-place-end.ensures, ap length c.as_slice-own.ensures.value, ap length same, same_size s) in
    λ q. no_latch_after (own_circuit s) (start_of s.run.bench.pair.circuit) c.loop-place.place q le c.loop-place.invariant
