use Rattle.std.proofs.Common.{◌≡◌, ℕ, ◌<◌, List, Some, slice_get}
use Rattle.aig_parts.specs.declared.ternary.Tern.{Tern}
use Rattle.aig_parts.specs.declared.latch.Latch.{Latch}
use Rattle.aig_parts.specs.Literal.{variable}
use Rattle.aig_values.specs.state.Frame.{AreStates, Holds, Renews}
use Rattle.aig_sim.proofs.simulation.frame_cells.put_latches.Given as goal

abbrev pub invariant-loop-position : goal.invariant-loop-position
invariant-loop-position l = record {
  renews : (start : List Tern) (rows : List (List Tern)) (t : ℕ) → AreStates l.circuit start rows t l.states
      → Renews l.circuit start rows t l.initial.cells l.cells;
  latches : (start : List Tern) (rows : List (List Tern)) (t : ℕ) → AreStates l.circuit start rows t l.states
      → (i : ℕ) (x : Latch) → i < l.position → slice_get l.circuit.latches i ≡ Some x
      → Holds l.circuit start rows t l.cells (variable x.lit);
}
