use Rattle.std.proofs.Common.{◌≡◌, ℕ, ◌+◌, length, take, get_or, count_by}
use Rattle.aig_base.specs.Greatest.{reads}
use Rattle.aig_base.proofs.level.greatest.fan_outs.Given as goal

abbrev pub invariant-loop-gate : goal.invariant-loop-gate
invariant-loop-gate l = record {
  size : length l.counts.items ≡ l.circuit.max_var + 1;
  each : (v : ℕ) → get_or l.counts.items v 0 ≡ count_by (reads v) (take l.gate-index l.circuit.gates);
}
