-- Orders of a circuit's gates.
use Rattle.std.proofs.Common.{◌≡◌, inl, inr, ℕ, ◌+◌, List, [], ◌∷◌, ◌++◌, Contains, length, map, Some, slice_get, refl}
use Rattle.std.proofs.Common.{sym, ap, ◌∙◌, subst, length-append, option_map}
use Rattle.std.proofs.lemmas.List.{length-map, map_push}
use Rattle.std.proofs.lemmas.List.Elements.{All-push}
use Rattle.std.proofs.lemmas.Option.{slice_get-map, slice_get_within}
use Rattle.aig_parts.specs.declared.gate.Gate.{Gate}
use Rattle.aig_parts.specs.declared.raw.Raw.{Raw}
use Rattle.aig_parts.specs.declared.ternary.Tern.{Tern}
use Rattle.aig_base.specs.Changes.{next_gate, restarted, with_appended_gate, with_output, with_reset}
use Rattle.aig_base.specs.Circuit.{IsCircuit}
use Rattle.aig_base.specs.Grounded.{IsSource}
use Rattle.aig_base.specs.Grounded as by
use Rattle.aig_parts.specs.Literal.{variable}
use Rattle.aig_base.specs.Order.{IsCanonicalOrder}
use Rattle.aig_base.specs.Sections.{IsDefined}
use Rattle.aig_base.proofs.growth.Appended.{new_at, new_variable, old_at}
use Rattle.aig_base.proofs.lists.Counting.{length-order}
use Rattle.aig_base.proofs.circuits.Defined.{defined_cases}
use Rattle.aig_base.proofs.lists.Gets.{slice_get_last, slice_get_left, slice_get_push}
use Rattle.aig_values.specs.GateOrder.{AreGatesOf, IsGateOrder, IsSourceOrEarlier}
use Rattle.aig_values.proofs.GateOrders.{gate_order}
use Rattle.aig_bench.specs.declared.engine.sweep_order.Order.{Order}
use Rattle.aig_bench.specs.declared.engine.sweep_order.Way.{Way}
use Rattle.aig_bench.specs.declared.engine.sweep_order.Way.TheVariants.{Standing, Listed, Stale}
use Rattle.aig_bench.specs.state.SweepOrder.{AreTaken, IsFullOrder, Orders}
use Rattle.aig_bench.proofs.growing.Grown.{gate_was}

-- one gate more
pub gates_more : {raw : Raw} {vs : List ℕ} {gates : List Gate} (v : ℕ) (g : Gate) → AreGatesOf raw vs gates
    → (r : ℕ) × (slice_get raw.gates r ≡ Some g) → variable g.lhs ≡ v → AreGatesOf raw (vs ++ v ∷ []) (gates ++ g ∷ [])
gates_more {raw} {vs} {gates} v g h at is = record {
  known = All-push (λ g. (r : ℕ) × (slice_get raw.gates r ≡ Some g)) gates g h.known at;
  variables_are = map_push (λ (g : Gate). variable g.lhs) gates g
      ∙ ap (λ (us : List ℕ). us ++ variable g.lhs ∷ []) h.variables_are
      ∙ ap (λ (u : ℕ). vs ++ u ∷ []) is;
}

-- the gates in the canonical order
pub canonical_list : (raw : Raw) (variables : List ℕ) (gates : List Gate) → IsCircuit raw → IsCanonicalOrder raw variables
    → AreGatesOf raw variables gates → IsFullOrder raw gates
canonical_list raw variables gates circuit canonical h = record {
  order = gate_order raw circuit variables gates canonical h;
  size = sym (length-map gates (λ (g : Gate). variable g.lhs)) ∙ ap length h.variables_are
      ∙ length-order raw circuit.sound variables canonical;
}

-- one gate more after the others
module _ (raw : Raw) (r0 r1 : ℕ) (d0 : IsDefined raw (variable r0)) (d1 : IsDefined raw (variable r1)) where
  abbrev more : Raw
  more = with_appended_gate raw r0 r1

  abbrev gate : Gate
  gate = next_gate raw r0 r1

  source_still : (v : ℕ) → IsSource raw v → IsSource more v
  source_still v by.IsSource.constant = by.IsSource.constant
  source_still v (by.IsSource.input p l at) = by.IsSource.input p l at
  source_still v (by.IsSource.latch p x at) = by.IsSource.latch p x at

  module _ (gates : List Gate) (h : IsGateOrder raw gates) where
    abbrev longer : List Gate
    longer = gates ++ gate ∷ []

    ready_still : (q v : ℕ) → IsSourceOrEarlier raw gates q v → IsSourceOrEarlier more longer q v
    ready_still q v (inl s) = inl (source_still v s)
    ready_still q v (inr (r, g, lt, at, is)) = inr (r, g, lt, slice_get_left gates (gate ∷ []) r g at, is)

    defined_ready : (v : ℕ) → IsDefined raw v → IsSourceOrEarlier more longer (length gates) v
    defined_ready v d = elim (defined_cases raw v d) [
      | inl s ↦ inl (source_still v s)
      | inr k ↦
          let (q, g, at, is) = h.complete v k in
          inr (q, g, slice_get_within gates q g at, slice_get_left gates (gate ∷ []) q g at, is)
    ]

    pub order_more : IsGateOrder more longer
    order_more = record {
      known = λ q g at. elim (slice_get_push gates gate g q at) [
        | inl was ↦ let (r, stands) = h.known q g was in (r, old_at raw r0 r1 r g stands)
        | inr e ↦ (length raw.gates, new_at raw r0 r1 ∙ ap Some e.1)
      ];
      complete = λ v k. elim (gate_was raw r0 r1 v k) [
        | inl was ↦
            let (q, g, at, is) = h.complete v was in
            (q, g, slice_get_left gates (gate ∷ []) q g at, is)
        | inr e ↦ (length gates, gate, slice_get_last gates gate, new_variable raw r0 r1 ∙ sym e)
      ];
      ready0 = λ q g at. elim (slice_get_push gates gate g q at) [
        | inl was ↦ ready_still q (variable g.rhs0) (h.ready0 q g was)
        | inr e ↦ subst (λ (x : Gate). IsSourceOrEarlier more longer q (variable x.rhs0)) e.1
            (subst (λ (n : ℕ). IsSourceOrEarlier more longer n (variable r0)) (sym e.0) (defined_ready (variable r0) d0))
      ];
      ready1 = λ q g at. elim (slice_get_push gates gate g q at) [
        | inl was ↦ ready_still q (variable g.rhs1) (h.ready1 q g was)
        | inr e ↦ subst (λ (x : Gate). IsSourceOrEarlier more longer q (variable x.rhs1)) e.1
            (subst (λ (n : ℕ). IsSourceOrEarlier more longer n (variable r1)) (sym e.0) (defined_ready (variable r1) d1))
      ];
    }

  pub list_more : (gates : List Gate) → IsFullOrder raw gates → IsFullOrder more (gates ++ gate ∷ [])
  list_more gates h = record {
    order = order_more gates h.order;
    size = length-append gates (gate ∷ []) ∙ ap (λ k. k + 1) h.size ∙ sym (length-append raw.gates (gate ∷ []));
  }

-- other resets or outputs
module _ (raw new : Raw) (same : new.gates ≡ raw.gates) (source : (v : ℕ) → IsSource raw v → IsSource new v) where
  ready_kept : (gates : List Gate) (q v : ℕ) → IsSourceOrEarlier raw gates q v → IsSourceOrEarlier new gates q v
  ready_kept gates q v (inl s) = inl (source v s)
  ready_kept gates q v (inr x) = inr x

  pub order_kept : (gates : List Gate) → IsGateOrder raw gates → IsGateOrder new gates
  order_kept gates h = record {
    known = λ q g at. let (r, stands) = h.known q g at in
        (r, ap (λ (gs : List Gate). slice_get gs r) same ∙ stands);
    complete = λ v k. h.complete v (subst (λ (gs : List Gate). Contains (map (λ (g : Gate). variable g.lhs) gs) v) same k);
    ready0 = λ q g at. ready_kept gates q (variable g.rhs0) (h.ready0 q g at);
    ready1 = λ q g at. ready_kept gates q (variable g.rhs1) (h.ready1 q g at);
  }

  pub standing_kept : IsGateOrder raw raw.gates → IsGateOrder new new.gates
  standing_kept h = subst (IsGateOrder new) (sym same) (order_kept raw.gates h)

  pub list_kept : (gates : List Gate) → IsFullOrder raw gates → IsFullOrder new gates
  list_kept gates h = record { order = order_kept gates h.order; size = h.size ∙ ap length (sym same) }

  taken_kept : (w : Way) (gates : List Gate) → AreTaken raw w gates → AreTaken new w gates
  taken_kept Standing gates h = standing_kept h
  taken_kept Listed gates h = list_kept gates h
  taken_kept Stale gates h = tt

  orders_kept : (order : Order) → Orders raw order → Orders new order
  orders_kept order h = taken_kept order.way order.gates.items h

source_restarted : (raw : Raw) (lit : ℕ) (w : Tern) (v : ℕ) → IsSource raw v → IsSource (with_reset raw lit w) v
source_restarted raw lit w v by.IsSource.constant = by.IsSource.constant
source_restarted raw lit w v (by.IsSource.input p l at) = by.IsSource.input p l at
source_restarted raw lit w v (by.IsSource.latch p x at) =
    by.IsSource.latch p (restarted lit w x)
    (slice_get-map (restarted lit w) raw.latches p ∙ ap (option_map (restarted lit w)) at)

pub orders_reset : (raw new : Raw) (lit : ℕ) (w : Tern) (order : Order) → new ≡ with_reset raw lit w → Orders raw order
    → Orders new order
orders_reset raw new lit w order e h =
    subst (λ (x : Raw). Orders x order) (sym e)
    (orders_kept raw (with_reset raw lit w) refl (source_restarted raw lit w) order h)

source_output : (raw : Raw) (position l : ℕ) (v : ℕ) → IsSource raw v → IsSource (with_output raw position l) v
source_output raw position l v by.IsSource.constant = by.IsSource.constant
source_output raw position l v (by.IsSource.input p k at) = by.IsSource.input p k at
source_output raw position l v (by.IsSource.latch p x at) = by.IsSource.latch p x at

pub orders_output : (raw new : Raw) (position l : ℕ) (order : Order) → new ≡ with_output raw position l → Orders raw order
    → Orders new order
orders_output raw new position l order e h =
    subst (λ (x : Raw). Orders x order) (sym e)
    (orders_kept raw (with_output raw position l) refl (source_output raw position l) order h)
