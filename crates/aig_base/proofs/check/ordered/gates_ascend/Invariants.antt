use Rattle.std.proofs.Common.{◌≡◌, ℕ, ◌<◌, get_or, take, map}
use Rattle.aig_parts.specs.declared.gate.Gate.{Gate}
use Rattle.aig_base.specs.state.LeastFaulty.{ReadsSmaller}
use Rattle.aig_base.specs.Renumbered.{evens_from}
use Rattle.aig_base.proofs.check.ordered.gates_ascend.Given as goal

abbrev pub invariant-loop-place : goal.invariant-loop-place
invariant-loop-place l = record {
  order : take l.place (map (λ g. g.lhs) l.gates) ≡ evens_from l.first l.place;
  smaller : (k : ℕ) (d : Gate) → k < l.place → ReadsSmaller (get_or l.gates k d);
}
