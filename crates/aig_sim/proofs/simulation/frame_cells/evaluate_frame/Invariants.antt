use Rattle.std.proofs.Common.{ℕ, List}
use Rattle.aig_parts.specs.declared.ternary.Tern.{Tern}
use Rattle.aig_parts.specs.declared.raw.Raw.{Raw}
use Rattle.aig_base.specs.Sound.{IsSound}
use Rattle.aig_values.specs.state.Frame.{HoldsSources}
use Rattle.aig_values.specs.GateOrder.{IsGateOrder}
use Rattle.aig_values.proofs.Evaluation.{HoldsFirst}
use Rattle.aig_sim.proofs.simulation.frame_cells.evaluate_frame.Given as goal

abbrev pub invariant-loop-gate : goal.invariant-loop-gate
invariant-loop-gate l = record {
  sources : (raw : Raw) (start : List Tern) (rows : List (List Tern)) (t : ℕ) → IsSound raw → IsGateOrder raw l.gates
      → HoldsSources raw start rows t l.initial.cells → HoldsSources raw start rows t l.cells;
  first : (raw : Raw) (start : List Tern) (rows : List (List Tern)) (t : ℕ) → IsSound raw → IsGateOrder raw l.gates
      → HoldsSources raw start rows t l.initial.cells → HoldsFirst raw start rows t l.gates l.gate-index l.cells;
}
