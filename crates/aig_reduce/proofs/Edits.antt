-- Edits that no fault forbids.
use Rattle.std.proofs.Common.{◌≡◌, inl, inr, ℕ, ◌<◌, length, Result, Ok, Err, arith}
use Rattle.aig_parts.specs.declared.ternary.Tern.{Tern}
use Rattle.aig_base.specs.Sections.{IsLatchLiteral}
use Rattle.aig_bench.specs.declared.edit.EditFault.{EditFault}
use Rattle.aig_bench.specs.declared.edit.EditFault.TheVariants as fault
use Rattle.aig_bench.specs.BenchState.{CircuitAndRows}
use Rattle.aig_bench.specs.Edit.{Edit, Edits, edited, set_bit, set_reset, Forbids, NoneApplies, TakesMemory}
use Rattle.aig_bench.proofs.edits.Refusals.{reset_allowed}

done : {A : Type 0} (p : CircuitAndRows) (e : Edit) (r : Result A EditFault) (new : CircuitAndRows) → Edits p e r new
    → NoneApplies (Forbids p e) → (TakesMemory e → ⊥) → new ≡ edited p e
done p e (Ok a) new h none small = h.1
done p e (Err f) new h none small = elim h.0 [ inl k ↦ absurd (none f k.0) | inr k ↦ absurd (small k.1) ]

bit_allowed : (p : CircuitAndRows) (t i : ℕ) (w : Tern) → t < length p.rows → i < length p.circuit.inputs
    → NoneApplies (Forbids p (set_bit t i w))
bit_allowed p t i w lt lt' fault.NoFrame f = absurd (omega arith)
bit_allowed p t i w lt lt' fault.NoInput f = absurd (omega arith)
bit_allowed p t i w lt lt' _ f = f

pub bit_done : {A : Type 0} (p : CircuitAndRows) (t i : ℕ) (w : Tern) (r : Result A EditFault) (new : CircuitAndRows)
    → t < length p.rows → i < length p.circuit.inputs → Edits p (set_bit t i w) r new → new ≡ edited p (set_bit t i w)
bit_done p t i w r new lt lt' h = done p (set_bit t i w) r new h (bit_allowed p t i w lt lt') (λ k. k)

pub reset_done : {A : Type 0} (p : CircuitAndRows) (latch : ℕ) (w : Tern) (r : Result A EditFault) (new : CircuitAndRows)
    → IsLatchLiteral p.circuit latch → Edits p (set_reset latch w) r new → new ≡ edited p (set_reset latch w)
reset_done p latch w r new is h = done p (set_reset latch w) r new h (reset_allowed p latch w is) (λ k. k)
