-- What a circuit that is simulated row by row is seen as.
-- Example: cells 0, 1, 1, 1, 1 are those after the step `11` of `examples/two_gates.aag`.
use Rattle.std.specs.Prelude.{◌+◌, List, [], ◌∷◌, ◌++◌, length}
use Rattle.aig_parts.specs.declared.ternary.Tern.{Tern}
use Rattle.aig_parts.specs.declared.raw.Raw.{Raw}
use Rattle.aig_values.specs.state.Frame.{HoldsAll, AreStates}

-- the circuit, a cell a variable with the values at the last frame, and the latches' values at the next one
pub record Machine : Type 0 where
  pub circuit : Raw
  pub cells : List Tern
  pub states : List Tern

-- after the rows so far, the cells have the values at the frame of this row, and the latches have these values after it
pub record Steps (raw : Raw) (start : List Tern) (rows : List (List Tern)) (row cells states : List Tern) : Type 0 where
  pub cells_are : HoldsAll raw start (rows ++ row ∷ []) (length rows) cells
  pub states_are : AreStates raw start (rows ++ row ∷ []) (length rows + 1) states
