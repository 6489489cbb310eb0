use Rattle.std.proofs.Common.{ap, ◌∙◌}
use Rattle.aig_base.specs.Value.{start_of}
use Rattle.aig_bench.specs.BenchState.{BenchState}
use Rattle.aig_sim.proofs.ReachedLemmas.{reaches_none}
use Rattle.aig_shell.specs.Session.{own_circuit}
use Rattle.aig_shell.proofs.reached.Reaching.{found_first, found_none}
use Rattle.aig_shell.proofs.saved.Saved.{own_resets}
use Rattle.aig_shell.proofs.session.Session.reached.Goals as goal

pub returns-in-Some-clause-err : goal.returns-in-Some-clause-err
returns-in-Some-clause-err c = λ other.
    let s = c.args.self.now in
    reaches_none (own_circuit s) (start_of s.run.bench.pair.circuit) s.run.bench.pair.rows c.args.asked c.in-Some.latch
    (let first = c.in-Some.ensures.some in first.wrong)

pub returns-in-Some-2-clause-ok : goal.returns-in-Some-2-clause-ok
returns-in-Some-2-clause-ok c =
    let s = c.args.self.now in
    let rows = c.stimulus-rows.ensures.rows ∙ ap (λ (b : BenchState). b.pair.rows) c.bench-bench.ensures in
    found_first (own_circuit s) s.run.bench.pair (own_resets s) c.args.asked c.circuit-circuit.result.now
    c.as_slice.result.now c.stimulus-rows.result.now.rows c.circuit-circuit.ensures (c.as_slice.ensures.value ∙ c.in_ok-start.ensures) rows
    c.in_default.ensures.none c.in-Some-2.reached.frame c.in-Some-2.reached.property (rw c.in-Some-2.is at c.in_ok-reached.ensures.some)

pub returns-clause-err : goal.returns-clause-err
returns-clause-err c = λ other.
    let s = c.args.self.now in
    let rows = c.stimulus-rows.ensures.rows ∙ ap (λ (b : BenchState). b.pair.rows) c.bench-bench.ensures in
    found_none (own_circuit s) s.run.bench.pair (own_resets s) c.args.asked c.circuit-circuit.result.now
    c.as_slice.result.now c.stimulus-rows.result.now.rows c.circuit-circuit.ensures (c.as_slice.ensures.value ∙ c.in_ok-start.ensures) rows
    (rw c.in-None.is at c.in_ok-reached.ensures.none)
