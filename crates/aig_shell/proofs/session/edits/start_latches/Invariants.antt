use Rattle.std.proofs.Common.{◌≡◌, drop, map}
use Rattle.aig_bench.specs.BenchState.{CircuitAndRows}
use Rattle.aig_shell.specs.State.{Leads, start_edits}
use Rattle.aig_shell.proofs.session.edits.start_latches.Given as goal

abbrev pub invariant-loop-place : goal.invariant-loop-place
invariant-loop-place l = record {
  leads : (q : CircuitAndRows) → Leads l.bench.pair (start_edits (drop l.place l.latches) (drop l.place l.values)) q
      → Leads l.initial.bench.pair (start_edits l.latches l.values) q;
  same : map (λ x. x.lit) l.bench.pair.circuit.latches ≡ map (λ x. x.lit) l.initial.bench.pair.circuit.latches;
}
