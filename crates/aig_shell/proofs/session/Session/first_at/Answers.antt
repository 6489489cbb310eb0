use Rattle.std.proofs.Common.{length, ap, ◌∙◌, subst, arith}
use Rattle.aig_base.specs.Circuit.{IsCircuit}
use Rattle.aig_base.specs.Value.{start_of}
use Rattle.aig_base.proofs.values.UniqueValue.{unique}
use Rattle.aig_bench.specs.BenchState.{BenchState, HasValue}
use Rattle.aig_sim.proofs.VerdictLemmas.{right_more}
use Rattle.aig_shell.proofs.tables.FirstRuns.{is_value, no_value}
use Rattle.aig_shell.proofs.session.Session.first_at.Goals as goal

pub loop-frame-preserved : goal.loop-frame-preserved
loop-frame-preserved c =
    let p = c.args.self.now.run.bench.pair in
    let circuit = subst (λ (b : BenchState). IsCircuit b.pair.circuit) c.bench-bench.ensures c.width.ensures.circuit in
    right_more (λ u. HasValue p u c.args.literal c.args.value) c.loop-frame.frame c.loop-frame.invariant
    (λ h. no_value _ _ c.eq.result c.eq.ensures c.if-eq.false
    (unique p.circuit (start_of p.circuit) p.rows circuit.sound c.value-found.ensures h))

pub returns-then-eq-clause-some : goal.returns-then-eq-clause-some
returns-then-eq-clause-some c =
    let p = c.args.self.now.run.bench.pair in
    let size = c.frames-frame-end.ensures ∙ ap (λ (b : BenchState). length b.pair.rows) c.bench-bench.ensures in
    record {
      frame = omega (arith, c.loop-frame-test.true, size);
      value = subst (HasValue p c.loop-frame.frame c.args.literal) (is_value _ _ c.eq.result c.eq.ensures c.if-eq.true) c.value-found.ensures;
      before = c.loop-frame.invariant;
    }

pub returns-clause-none : goal.returns-clause-none
returns-clause-none c =
    let size = c.frames-frame-end.ensures ∙ ap (λ (b : BenchState). length b.pair.rows) c.bench-bench.ensures in
    λ t lt h. c.loop-frame.invariant t (omega (arith, lt, size, c.loop-frame-test.false)) h
