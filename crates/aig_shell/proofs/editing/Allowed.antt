-- When an edit is possible, and what it is refused for.
use Rattle.std.proofs.Common.{◌≡◌, ◌≢◌, ℕ, ◌+◌, ◌*◌, ◌<◌, ◌≤◌, ◌⊎◌, inl, inr, List, [], ◌∷◌, length, refl, sym, ap}
use Rattle.std.proofs.Common.{subst, ◌∙◌, arith}
use Rattle.aig_parts.specs.Limits.{cell_limit, frame_limit}
use Rattle.aig_parts.specs.declared.ternary.Tern.{Tern}
use Rattle.aig_base.specs.Sections.{IsLatchLiteral}
use Rattle.aig_bench.specs.declared.edit.EditFault.{EditFault}
use Rattle.aig_bench.specs.declared.edit.EditFault.TheVariants as fault
use Rattle.aig_bench.specs.BenchState.{CircuitAndRows}
use Rattle.aig_bench.specs.Edit.{Edit, Forbids, NoneApplies, TakesMemory, IsLeastFault, LacksMemory, add_frame}
use Rattle.aig_bench.specs.Edit.{drop_frame, set_bit, set_reset}
use Rattle.aig_shell.specs.State.{Leads}

pub drop_allowed : (p : CircuitAndRows) → 0 < length p.rows → NoneApplies (Forbids p drop_frame)
drop_allowed p a fault.Empty h =
    let none : length p.rows ≡ 0 = ap length h in
    absurd (omega (arith, a, none))
drop_allowed p a _ h = h

pub bit_allowed : (p : CircuitAndRows) (t i : ℕ) (w : Tern) → t < length p.rows → i < length p.circuit.inputs
    → NoneApplies (Forbids p (set_bit t i w))
bit_allowed p t i w a b fault.NoFrame h = omega (arith, a, h)
bit_allowed p t i w a b fault.NoInput h = omega (arith, b, h)
bit_allowed p t i w a b _ h = h

pub row_allowed : (p : CircuitAndRows) (row : List Tern) → length row ≡ length p.circuit.inputs → length p.rows < frame_limit
    → (p.circuit.max_var + 1) * (length p.rows + 1) ≤ cell_limit → NoneApplies (Forbids p (add_frame row))
row_allowed p row width frames cells fault.Length h = h width
row_allowed p row width frames cells fault.Limit h = h (cells, frames)
row_allowed p row width frames cells _ h = h

-- one that is possible fails for memory alone
pub lacks_memory : (p : CircuitAndRows) (e : Edit) (f : EditFault) → NoneApplies (Forbids p e)
    → IsLeastFault (Forbids p e) f ⊎ LacksMemory p e f → f ≡ fault.Memory
lacks_memory p e f none (inl h) = absurd (none f h.0)
lacks_memory p e f none (inr h) = h.0

-- an edit that fails for anything else is not possible
pub refused : (p new q : CircuitAndRows) (e : Edit) (f : EditFault) → (IsLeastFault (Forbids p e) f ⊎ LacksMemory p e f) × (new ≡ p)
    → f ≢ fault.Memory → Leads p (e ∷ []) q → ⊥
unfolding Leads
refused p new q e f (inl h, k) other l = l.0 f h.0
refused p new q e f (inr h, k) other l = other h.0
