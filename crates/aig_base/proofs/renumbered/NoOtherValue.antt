-- A renumbered circuit gives no value that the circuit does not.
use Rattle.std.proofs.Common.{◌≡◌, ℕ, ◌<◌, List, length, subst}
use Rattle.aig_parts.specs.declared.raw.Raw.{Raw}
use Rattle.aig_parts.specs.declared.ternary.Tern.{Tern}
use Rattle.aig_base.specs.Circuit.{IsCircuit}
use Rattle.aig_parts.specs.Literal.{variable}
use Rattle.aig_base.specs.Order.{IsCanonicalOrder}
use Rattle.aig_base.specs.Renumbered.{renumbered, renumbered_literal}
use Rattle.aig_base.specs.Sections.{IsDefined}
use Rattle.aig_base.specs.Value.{Value, Fits}
use Rattle.aig_base.proofs.values.OneValue.{exists_value}
use Rattle.aig_base.proofs.renumbered.RenumberedCircuit.{renumbered_circuit}
use Rattle.aig_base.proofs.renumbered.RenumberedValueLemmas.{renumbered_value}
use Rattle.aig_base.proofs.values.UniqueValue.{unique}

-- the counterpart of a defined literal has no other value
pub no_other_value : (raw : Raw) → IsCircuit raw → (order : List ℕ) → IsCanonicalOrder raw order
    → (start : List Tern) (rows : List (List Tern))
    → Fits raw start rows → (t l : ℕ) (w : Tern) → t < length rows → IsDefined raw (variable l)
    → Value (renumbered raw order) start rows t (renumbered_literal raw order l) w → Value raw start rows t l w
no_other_value raw circuit order canonical start rows fits t l w lt defined v =
    let (u, here) = exists_value raw start rows circuit.sound circuit.acyclic fits t lt l defined in
    let there = renumbered_value raw circuit.sound order canonical start rows here in
    let same : u ≡ w = unique (renumbered raw order) start rows
    (renumbered_circuit raw circuit order canonical).sound there v in
    subst (λ x. Value raw start rows t l x) same here
