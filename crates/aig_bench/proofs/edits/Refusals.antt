-- Which fault of a question or an edit applies first.
use Rattle.std.proofs.Common.{◌≡◌, ◌≢◌, ◌⊎◌, inl, inr, ℕ, ◌<◌, ◌≤◌, length, Result, Ok, Err, IsErrAnd, refl, sym, subst}
use Rattle.std.proofs.Common.{arith}
use Rattle.aig_parts.specs.declared.ternary.Tern.{Tern}
use Rattle.aig_base.specs.Changes.{with_gate}
use Rattle.aig_base.specs.Grounded.{IsAcyclic}
use Rattle.aig_parts.specs.Literal.{variable}
use Rattle.aig_base.specs.Sections.{IsDefined, IsLeftSide, IsLatchLiteral}
use Rattle.aig_base.specs.Sound.{IsInRange}
use Rattle.aig_bench.specs.declared.edit.EditFault.{EditFault}
use Rattle.aig_bench.specs.declared.edit.EditFault.TheVariants as fault
use Rattle.aig_bench.specs.BenchState.{CircuitAndRows}
use Rattle.aig_bench.specs.Edit.{Edit, Edits, rewire, set_reset, edit_fault_number, Forbids, NoneApplies, IsLeastFault}
use Rattle.aig_bench.specs.Edit.{LacksMemory}
use Rattle.aig_bench.specs.Question.{ForbidsValue}

module _ (p : CircuitAndRows) (t l : ℕ) where
  pub value_no_frame : IsInRange p.circuit l → IsDefined p.circuit (variable l) → length p.rows ≤ t
      → IsLeastFault (ForbidsValue p t l) fault.NoFrame
  value_no_frame range defined none = (none, below)
    where
      below : (g : EditFault) → edit_fault_number g < 6 → ForbidsValue p t l g → ⊥
      below fault.Range lt f = f range
      below fault.Undefined lt f = f defined
      below fault.NoFrame lt f = absurd (omega arith)
      below _ lt f = f

  pub value_allowed : IsInRange p.circuit l → IsDefined p.circuit (variable l) → t < length p.rows
      → NoneApplies (ForbidsValue p t l)
  value_allowed range defined there fault.Range f = f range
  value_allowed range defined there fault.Undefined f = f defined
  value_allowed range defined there fault.NoFrame f = absurd (omega arith)
  value_allowed range defined there _ f = f

module _ (p : CircuitAndRows) (lhs r0 r1 : ℕ) where
  module _ (gate : IsLeftSide p.circuit lhs) where
    module _ (range : IsInRange p.circuit r0 × IsInRange p.circuit r1) where
      module _ (defined : IsDefined p.circuit (variable r0) × IsDefined p.circuit (variable r1)) where
        pub rewires_cycle : (IsAcyclic (with_gate p.circuit lhs r0 r1) → ⊥)
            → IsLeastFault (Forbids p (rewire lhs r0 r1)) fault.Cycle
        rewires_cycle none = (none, below)
          where
            below : (g : EditFault) → edit_fault_number g < 5 → Forbids p (rewire lhs r0 r1) g → ⊥
            below fault.NotAGate lt f = f gate
            below fault.Range lt f = f range
            below fault.Undefined lt f = f defined
            below fault.Cycle lt f = absurd (omega arith)
            below _ lt f = f

        pub rewire_allowed : IsAcyclic (with_gate p.circuit lhs r0 r1) → NoneApplies (Forbids p (rewire lhs r0 r1))
        rewire_allowed acyclic fault.NotAGate f = f gate
        rewire_allowed acyclic fault.Range f = f range
        rewire_allowed acyclic fault.Undefined f = f defined
        rewire_allowed acyclic fault.Cycle f = f acyclic
        rewire_allowed acyclic _ f = f

        pub rewire_lacks : LacksMemory p (rewire lhs r0 r1) fault.Memory
        rewire_lacks = (refl, tt, others)
          where
            others : (g : EditFault) → Forbids p (rewire lhs r0 r1) g → g ≡ fault.Cycle
            others fault.NotAGate f = absurd (f gate)
            others fault.Range f = absurd (f range)
            others fault.Undefined f = absurd (f defined)
            others fault.Cycle f = refl
            others _ f = absurd f

        -- what a rewire answers that is not done, after its first faults
        pub rewire_refused : (f : EditFault) → (f ≡ fault.Cycle) ⊎ (f ≡ fault.Memory)
            → (f ≡ fault.Cycle → IsAcyclic (with_gate p.circuit lhs r0 r1) → ⊥)
            → IsLeastFault (Forbids p (rewire lhs r0 r1)) f ⊎ LacksMemory p (rewire lhs r0 r1) f
        rewire_refused f (inl e) cycle =
            inl (subst (IsLeastFault (Forbids p (rewire lhs r0 r1))) (sym e) (rewires_cycle (cycle e)))
        rewire_refused f (inr e) cycle = inr (subst (LacksMemory p (rewire lhs r0 r1)) (sym e) rewire_lacks)

module _ (p : CircuitAndRows) (latch : ℕ) (w : Tern) where
  pub reset_allowed : IsLatchLiteral p.circuit latch → NoneApplies (Forbids p (set_reset latch w))
  reset_allowed h fault.NotALatch f = f h
  reset_allowed h _ f = f

-- a refused edit leaves the pair
pub refused : {A : Type 0} (p : CircuitAndRows) (e : Edit) (r : Result A EditFault) (x : EditFault) → IsErrAnd r (λ f. f ≡ x)
    → IsLeastFault (Forbids p e) x → Edits p e r p
refused p e (Ok a) x h k = absurd h
refused p e (Err f) x h k = (inl (subst (IsLeastFault (Forbids p e)) (sym h) k), refl)

pub lacking : {A : Type 0} (p : CircuitAndRows) (e : Edit) (r : Result A EditFault) (x : EditFault) → IsErrAnd r (λ f. f ≡ x)
    → IsLeastFault (Forbids p e) x ⊎ LacksMemory p e x → Edits p e r p
lacking p e (Ok a) x h k = absurd h
lacking p e (Err f) x h k = (subst (λ f. IsLeastFault (Forbids p e) f ⊎ LacksMemory p e f) (sym h) k, refl)
