use Rattle.std.proofs.Common.{inl, inr, length, Some, subst}
use Rattle.aig_base.specs.Circuit.{IsCircuit}
use Rattle.aig_base.specs.Value.{start_of}
use Rattle.aig_bench.specs.BenchState.{BenchState}
use Rattle.aig_sim.proofs.ReachedLemmas.{reaches_none}
use Rattle.aig_values.proofs.PropertyLines.{bad_defined}
use Rattle.aig_values.specs.InputRows.{HaveWidth}
use Rattle.aig_shell.specs.Session.{own_circuit}
use Rattle.aig_shell.proofs.reached.Reaching.{first_reached, none_reached}
use Rattle.aig_shell.proofs.saved.Saved.{own_resets}
use Rattle.aig_shell.proofs.session.Session.standing.Goals as goal

pub first_at-requires : goal.first_at-requires
first_at-requires c =
    let p = c.args.self.now.run.bench.pair in
    let circuit = subst (λ (b : BenchState). IsCircuit b.pair.circuit) c.bench-bench.ensures c.width.ensures.circuit in
    bad_defined p.circuit circuit.sound c.args.position c.args.literal c.requires.literal

pub first_at-requires-in-None : goal.first_at-requires-in-None
first_at-requires-in-None c =
    let p = c.args.self.now.run.bench.pair in
    let circuit = subst (λ (b : BenchState). IsCircuit b.pair.circuit) c.bench-bench.ensures c.width.ensures.circuit in
    bad_defined p.circuit circuit.sound c.args.position c.args.literal c.requires.literal

pub returns-then-is_run_to : goal.returns-then-is_run_to
returns-then-is_run_to c =
    let s = c.args.self.now in
    let circuit = subst (λ (b : BenchState). IsCircuit b.pair.circuit) c.bench-bench.ensures c.width.ensures.circuit in
    let fits = subst (λ (b : BenchState). HaveWidth (length b.pair.circuit.inputs) b.pair.rows) c.bench-bench.ensures c.width.ensures.rows in
    let (right, held) = c.is_run_to.ensures.yes c.if-is_run_to.true in
    first_reached (own_circuit s) s.run.bench.pair (own_resets s) circuit fits c.in-Some.frame c.args.position
    c.args.literal c.requires.literal c.in-Some.ensures.some right held

pub returns-else-is_run_to : goal.returns-else-is_run_to
returns-else-is_run_to c =
    let s = c.args.self.now in
    let circuit = subst (λ (b : BenchState). IsCircuit b.pair.circuit) c.bench-bench.ensures c.width.ensures.circuit in
    let fits = subst (λ (b : BenchState). HaveWidth (length b.pair.circuit.inputs) b.pair.rows) c.bench-bench.ensures c.width.ensures.rows in (
      c.in-Some.ensures.some,
      elim (c.is_run_to.ensures.no c.if-is_run_to.false) [
        | inl (k, wrong) ↦ reaches_none (own_circuit s) (start_of s.run.bench.pair.circuit) s.run.bench.pair.rows (Some c.args.position) k wrong
        | inr (t, k, w, le, broken) ↦
            none_reached (own_circuit s) s.run.bench.pair (own_resets s) circuit fits c.in-Some.frame c.args.position
            c.args.literal c.requires.literal c.in-Some.ensures.some t k w le broken
      ],
    )
