-- The flags of a grid.
use Rattle.std.proofs.Common.{◌≡◌, ℕ, ◌≤◌, Bool, false, List, Some, slice_get, arith}
use Rattle.aig_parts.specs.declared.gate.Gate.{Gate}
use Rattle.aig_parts.specs.declared.raw.Raw.{Raw}
use Rattle.aig_base.specs.Grounded.{IsSource}
use Rattle.aig_parts.specs.Literal.{variable}
use Rattle.aig_base.specs.Sound.{IsSound}
use Rattle.aig_base.proofs.circuits.Circuits.{gate_definition, gate_in_range, gate_is, rhs0_in_range, rhs1_in_range}
use Rattle.aig_base.proofs.circuits.Circuits.{source-gate}
use Rattle.aig_values.specs.Cells.{HasCells}
use Rattle.aig_bench.specs.state.Current.{AreGateFlags}

-- each gate of a circuit can be evaluated
pub gate_cells : (raw : Raw) (flags : List Bool) (q : ℕ) (g : Gate) → IsSound raw → AreGateFlags raw flags
    → slice_get raw.gates q ≡ Some g → HasCells flags g
gate_cells raw flags q g sound h at = record {
  even = (gate_definition raw sound q g at).0;
  gate = h.gates (variable g.lhs) (gate_in_range raw sound q g at) (gate_is raw q g at);
  rhs0 = omega (arith, rhs0_in_range raw sound q g at, h.size);
  rhs1 = omega (arith, rhs1_in_range raw sound q g at, h.size);
}

pub source_flag : (raw : Raw) (flags : List Bool) (v : ℕ) → IsSound raw → AreGateFlags raw flags → v ≤ raw.max_var
    → IsSource raw v → slice_get flags v ≡ Some false
source_flag raw flags v sound h le s = h.others v le (source-gate raw sound v s)
