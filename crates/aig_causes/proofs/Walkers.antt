-- What a walker keeps stays, as long as its marks, weights and order do.
use Rattle.std.proofs.Common.{◌≡◌, ℕ, List, All, Global, Option, Some, None, unwrap_or, Vec, ◌+◌, length, IfSome, sym}
use Rattle.std.proofs.Common.{ap, ◌∙◌, subst}
use Rattle.aig_parts.specs.declared.gate.Gate.{Gate}
use Rattle.aig_parts.specs.declared.raw.Raw.{Raw}
use Rattle.aig_base.specs.Circuit.{IsCircuit}
use Rattle.aig_values.specs.Cells.{HasVariablesBelow}
use Rattle.aig_values.specs.GateOrder.{IsGateOrder}
use Rattle.aig_causes.specs.declared.visited.Visited.{Visited}
use Rattle.aig_causes.specs.declared.walker.Walker.{Walker}
use Rattle.aig_causes.specs.state.Walk.{AreEarlier, IsWalker}
use Rattle.aig_causes.proofs.Walks.{order_below}

pub walker_more : (w w' : Walker) → IsWalker w → AreEarlier w'.visited.number w'.visited.marks.items
    → length w'.visited.marks.items ≡ length w.visited.marks.items → length w'.weights.items ≡ length w.weights.items
    → w'.order ≡ w.order → IsWalker w'
walker_more w w' h earlier size weights order = record {
  earlier = earlier;
  weights = weights ∙ h.weights ∙ sym size;
  gates = rw (order, size) h.gates;
}

pub walker_kept : (w w' : Walker) → IsWalker w → w'.visited ≡ w.visited → w'.weights ≡ w.weights → w'.order ≡ w.order
    → IsWalker w'
walker_kept w w' h visited weights order =
    walker_more w w' h
    (subst (λ (v : Visited). AreEarlier v.number v.marks.items) (sym visited) h.earlier)
    (ap (λ (v : Visited). length v.marks.items) visited) (ap (λ (v : Vec ℕ Global). length v.items) weights) order

-- what holds of the listed gates, and of the circuit's where none are listed
pub in_turn : (P : Gate → Type 0) (order : Option (List Gate)) (gates : List Gate) → IfSome order (All P) → All P gates
    → All P (unwrap_or order gates)
in_turn P None gates h all = all
in_turn P (Some listed) gates h all = h

pub listed_below : (raw : Raw) → IsCircuit raw → (order : Option (List Gate)) → IsGateOrder raw (unwrap_or order raw.gates)
    → IfSome order (All (HasVariablesBelow (raw.max_var + 1)))
listed_below raw circuit None h = tt
listed_below raw circuit (Some listed) h = order_below raw circuit listed h
