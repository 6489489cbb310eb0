-- Edits of a circuit and its rows (our own choice).
-- Example: bit (0, 1) set to 0 gives the row `10`; at frame 3 it is fault 6 and the pair stays; `append_gate 9 2` gives
-- the gate `10 = 9 AND 2`.
use Rattle.std.specs.Prelude.{◌≡◌, ◌≢◌, ◌⊎◌, ℕ, ◌+◌, ◌-◌, ◌*◌, ◌<◌, ◌≤◌, List, [], ◌∷◌, ◌++◌, length, take, Result, Ok}
use Rattle.std.specs.Prelude.{Err}
use Rattle.aig_parts.specs.declared.ternary.Tern.{Tern}
use Rattle.aig_parts.specs.Formed.{limit}
use Rattle.aig_parts.specs.Limits.{cell_limit, frame_limit}
use Rattle.aig_parts.specs.Literal.{variable}
use Rattle.aig_base.specs.Sections.{IsDefined, IsLeftSide, IsLatchLiteral}
use Rattle.aig_base.specs.Grounded.{IsAcyclic}
use Rattle.aig_base.specs.Sound.{IsInRange}
use Rattle.aig_base.specs.Changes.{with_gate, with_reset, with_output, with_appended_gate}
use Rattle.aig_values.specs.InputRows.{with_cell}
use Rattle.aig_bench.specs.declared.edit.EditFault.{EditFault}
use Rattle.aig_bench.specs.declared.edit.EditFault.TheVariants as fault
use Rattle.aig_bench.specs.BenchState.{CircuitAndRows}

pub data Edit : Type 0 where
  rewire : (lhs r0 r1 : ℕ) → Edit
  set_reset : (latch : ℕ) (value : Tern) → Edit
  set_bit : (frame position : ℕ) (value : Tern) → Edit
  add_frame : (row : List Tern) → Edit
  drop_frame : Edit
  append_gate : (r0 r1 : ℕ) → Edit
  set_output : (position literal : ℕ) → Edit

-- what the edit makes of the pair, where it is accepted
abbrev pub edited : CircuitAndRows → Edit → CircuitAndRows
edited p (rewire lhs r0 r1) = record p { circuit = with_gate p.circuit lhs r0 r1 }
edited p (set_reset latch w) = record p { circuit = with_reset p.circuit latch w }
edited p (set_bit t i w) = record p { rows = with_cell p.rows t i w }
edited p (add_frame row) = record p { rows = p.rows ++ row ∷ [] }
edited p drop_frame = record p { rows = take (length p.rows - 1) p.rows }
edited p (append_gate r0 r1) = record p { circuit = with_appended_gate p.circuit r0 r1 }
edited p (set_output i l) = record p { circuit = with_output p.circuit i l }

-- the fault applies to the edit; out of memory is none of an edit's own
abbrev pub Forbids : CircuitAndRows → Edit → EditFault → Type 0
Forbids p (rewire lhs r0 r1) fault.NotAGate = IsLeftSide p.circuit lhs → ⊥
Forbids p (rewire lhs r0 r1) fault.Range = IsInRange p.circuit r0 × IsInRange p.circuit r1 → ⊥
Forbids p (rewire lhs r0 r1) fault.Undefined = IsDefined p.circuit (variable r0) × IsDefined p.circuit (variable r1) → ⊥
Forbids p (rewire lhs r0 r1) fault.Cycle = IsAcyclic (with_gate p.circuit lhs r0 r1) → ⊥
Forbids p (set_reset latch w) fault.NotALatch = IsLatchLiteral p.circuit latch → ⊥
Forbids p (set_bit t i w) fault.NoFrame = length p.rows ≤ t
Forbids p (set_bit t i w) fault.NoInput = length p.circuit.inputs ≤ i
Forbids p (add_frame row) fault.Length = length row ≢ length p.circuit.inputs
Forbids p (add_frame row) fault.Limit =
    ((p.circuit.max_var + 1) * (length p.rows + 1) ≤ cell_limit) × (length p.rows < frame_limit) → ⊥
Forbids p drop_frame fault.Empty = p.rows ≡ []
Forbids p (append_gate r0 r1) fault.Range = IsInRange p.circuit r0 × IsInRange p.circuit r1 → ⊥
Forbids p (append_gate r0 r1) fault.Undefined =
    IsDefined p.circuit (variable r0) × IsDefined p.circuit (variable r1) → ⊥
Forbids p (append_gate r0 r1) fault.Limit =
    (p.circuit.max_var < limit) × ((p.circuit.max_var + 2) * length p.rows ≤ cell_limit) → ⊥
Forbids p (set_output i l) fault.Range = IsInRange p.circuit l → ⊥
Forbids p (set_output i l) fault.Undefined = IsDefined p.circuit (variable l) → ⊥
Forbids p (set_output i l) fault.NoOutput = length p.circuit.outputs ≤ i
Forbids p _ _ = ⊥

-- the number of the fault in a script; the least of those that apply is reported
abbrev pub edit_fault_number : EditFault → ℕ
edit_fault_number fault.NotAGate = 1
edit_fault_number fault.NotALatch = 2
edit_fault_number fault.Range = 3
edit_fault_number fault.Undefined = 4
edit_fault_number fault.Cycle = 5
edit_fault_number fault.NoFrame = 6
edit_fault_number fault.NoInput = 7
edit_fault_number fault.Length = 8
edit_fault_number fault.Empty = 9
edit_fault_number fault.Limit = 10
edit_fault_number fault.Memory = 11
edit_fault_number fault.NoOutput = 13

-- no fault applies
abbrev pub NoneApplies : (EditFault → Type 0) → Type 0
NoneApplies P = (f : EditFault) → P f → ⊥

-- the fault is the one of least number that applies
abbrev pub IsLeastFault : (EditFault → Type 0) → EditFault → Type 0
IsLeastFault P f = P f × ((g : EditFault) → edit_fault_number g < edit_fault_number f → P g → ⊥)

-- the edits that may take memory
abbrev pub TakesMemory : Edit → Type 0
TakesMemory (rewire lhs r0 r1) = Unit {0}
TakesMemory (set_reset latch w) = ⊥
TakesMemory (set_bit t i w) = ⊥
TakesMemory (add_frame row) = Unit {0}
TakesMemory drop_frame = ⊥
TakesMemory (append_gate r0 r1) = Unit {0}
TakesMemory (set_output i l) = ⊥

-- such an edit found no memory; nothing else forbids it but a cycle perhaps, which is looked for after that
abbrev pub LacksMemory : CircuitAndRows → Edit → EditFault → Type 0
LacksMemory p e f = (f ≡ fault.Memory) × TakesMemory e × ((g : EditFault) → Forbids p e g → g ≡ fault.Cycle)

-- the edit takes the pair to the other with this answer; a refused one leaves it
abbrev pub Edits : {A : Type 0} → CircuitAndRows → Edit → Result A EditFault → CircuitAndRows → Type 0
Edits p e (Ok _) new = NoneApplies (Forbids p e) × (new ≡ edited p e)
Edits p e (Err f) new = (IsLeastFault (Forbids p e) f ⊎ LacksMemory p e f) × (new ≡ p)
