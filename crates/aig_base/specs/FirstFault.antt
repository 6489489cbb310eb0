-- The fault of parts that are no circuit: the first that applies, in the order of its number (our own choice).
-- Example: gates `4 = 6, 2` and `6 = 4, 2`: `Cycle(2)`.
use Rattle.std.specs.Prelude.{◌≡◌, ℕ, ◌+◌, ◌*◌, ◌<◌, ◌++◌, Any, Some, slice_get}
use Rattle.aig_parts.specs.declared.latch.Latch.{Latch}
use Rattle.aig_parts.specs.declared.raw.Raw.{Raw}
use Rattle.aig_parts.specs.declared.fault.Fault.{Fault}
use Rattle.aig_parts.specs.declared.fault.Fault.TheVariants as fault
use Rattle.aig_parts.specs.Literal.{variable}
use Rattle.aig_base.specs.Sections.{definitions, uses, IsGate}
use Rattle.aig_base.specs.Grounded.{Grounded}
use Rattle.aig_base.specs.Sound.{IsDefinition, IsRedefined, IsUndefined, IsReset}

-- v is the least of which P holds
abbrev pub IsLeast : (ℕ → Type 0) → ℕ → Type 0
IsLeast P v = P v × ((u : ℕ) → u < v → P u → ⊥)

-- v is a latch with a reset that is not 0, 1 or its own literal
abbrev pub HasBadReset : Raw → ℕ → Type 0
HasBadReset raw v = (p : ℕ) × (x : Latch) × (slice_get raw.latches p ≡ Some x) × (variable x.lit ≡ v) × (IsReset x → ⊥)

-- v is a gate that is not grounded: it is on a cycle, or reads one
abbrev pub IsUngrounded : Raw → ℕ → Type 0
IsUngrounded raw v = IsGate raw v × (Grounded raw v → ⊥)

-- the fault is one of these parts; faults of a file's text are none of its parts
abbrev pub FaultApplies : Raw → Fault → Type 0
FaultApplies raw fault.Range = Any (λ l. 2 * raw.max_var + 1 < l) (definitions raw ++ uses raw)
FaultApplies raw fault.Definition = Any (λ l. IsDefinition l → ⊥) (definitions raw)
FaultApplies raw (fault.Redefined v) = IsLeast (IsRedefined raw) v
FaultApplies raw (fault.Undefined v) = IsLeast (IsUndefined raw) v
FaultApplies raw (fault.Reset v) = IsLeast (HasBadReset raw) v
FaultApplies raw (fault.Cycle v) = IsLeast (IsUngrounded raw) v
FaultApplies raw other = ⊥

-- the order in which the faults are tried
abbrev pub fault_order : Fault → ℕ
fault_order (fault.Text at) = 1
fault_order fault.Limit = 2
fault_order fault.Counts = 3
fault_order fault.Range = 4
fault_order fault.Definition = 5
fault_order (fault.Redefined v) = 6
fault_order (fault.Undefined v) = 7
fault_order (fault.Reset v) = 8
fault_order (fault.Cycle v) = 9
fault_order fault.Memory = 10
fault_order fault.Io = 11

-- the fault is the first that applies
pub record IsFirstFault (raw : Raw) (f : Fault) : Type 0 where
  pub applies : FaultApplies raw f
  pub first : (g : Fault) → fault_order g < fault_order f → FaultApplies raw g → ⊥
