-- What a bench simulates: a circuit and the stimulus that drives it (our own choice).
-- Example: a frame's cell of variable 4 is the value of literal 8.
use Rattle.std.specs.Prelude.{◌≡◌, ◌+◌, ◌*◌, ◌≤◌, length}
use Rattle.aig_base.specs.Circuit.{IsCircuit}
use Rattle.aig_parts.specs.Limits.{cell_limit, frame_limit}
use Rattle.aig_values.specs.InputRows.{HaveWidth}
use Rattle.aig_bench.specs.declared.engine.driven_circuit.DrivenCircuit.{DrivenCircuit}
use Rattle.aig_bench.specs.BenchState.{CircuitAndRows}

-- the pair that is simulated
abbrev pub pair_of : DrivenCircuit → CircuitAndRows
pair_of driven = record { circuit = driven.circuit; rows = driven.stimulus.rows }

-- circuit and stimulus fit each other, within the limits of frames and cells
pub record IsDriven (driven : DrivenCircuit) : Type 0 where
  pub circuit : IsCircuit driven.circuit
  pub width : driven.stimulus.width ≡ length driven.circuit.inputs
  pub widths : HaveWidth driven.stimulus.width driven.stimulus.rows
  pub frames : length driven.stimulus.rows ≤ frame_limit
  pub cells : (driven.circuit.max_var + 1) * length driven.stimulus.rows ≤ cell_limit
