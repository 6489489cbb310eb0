use Rattle.std.proofs.Common.{◌≡◌, ℕ, ◌<◌, List, Some, slice_get}
use Rattle.aig_parts.specs.declared.raw.Raw.{Raw}
use Rattle.aig_parts.specs.declared.ternary.Tern.{Tern}
use Rattle.aig_parts.specs.Literal.{variable}
use Rattle.aig_values.specs.state.Frame.{Holds, Renews}
use Rattle.aig_sim.proofs.simulation.frame_cells.put_inputs.Given as goal

-- the first n inputs were put
pub record PutsFirst (raw : Raw) (row old new : List Tern) (n : ℕ) : Type 0 where
  pub renews : (start : List Tern) (rows : List (List Tern)) (t : ℕ) → slice_get rows t ≡ Some row
      → Renews raw start rows t old new
  pub inputs : (start : List Tern) (rows : List (List Tern)) (t : ℕ) → slice_get rows t ≡ Some row
      → (i k : ℕ) → i < n → slice_get raw.inputs i ≡ Some k → Holds raw start rows t new (variable k)

abbrev pub invariant-loop-position : goal.invariant-loop-position
invariant-loop-position l = PutsFirst l.circuit l.row l.fn.cells l.cells l.position

abbrev pub invariant-loop-place : goal.invariant-loop-place
invariant-loop-place l = PutsFirst l.circuit l.row l.fn.cells l.cells l.place
