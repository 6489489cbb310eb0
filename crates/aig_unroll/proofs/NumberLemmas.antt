-- The numbers of variables, by what defines each.
use Rattle.std.proofs.Common.{◌≡◌, inl, inr, ℕ, ◌+◌, ◌<◌, ◌≤◌, ◌==◌, List, length, get_or, set, Some, slice_get}
use Rattle.std.proofs.Common.{refl, sym, ap, subst, ◌∙◌, arith}
use Rattle.std.specs.List.{range_with_len}
use Rattle.std.proofs.lemmas.Bool.{cases_lt}
use Rattle.std.proofs.lemmas.List.{length-map, length-set, get_or-map, get_or-set_same, get_or-set_other}
use Rattle.std.proofs.lemmas.List.Elements.{Contains-get_or}
use Rattle.std.proofs.lemmas.List.FromFn.{length-range_with_len, get_or-range_with_len}
use Rattle.std.proofs.lemmas.Option.{slice_get-get_or, slice_get_within, get_or_from_slice_get}
use Rattle.aig_base.specs.declared.circuit.definition.Definition.TheVariants as definition
use Rattle.aig_parts.specs.declared.gate.Gate.{Gate}
use Rattle.aig_parts.specs.declared.raw.Raw.{Raw}
use Rattle.aig_parts.specs.Literal.{variable}
use Rattle.aig_base.specs.Definition.{Defines}
use Rattle.aig_base.specs.Order.{IsCanonicalOrder}
use Rattle.aig_base.specs.Renumbered.{renumbered_variable}
use Rattle.aig_base.specs.RenumberingTable.{IsRenumbering}
use Rattle.aig_base.specs.Role.{place_of}
use Rattle.aig_base.specs.Sections.{IsGate}
use Rattle.aig_base.specs.Sound.{IsSound}
use Rattle.aig_base.proofs.circuits.Gates.{IsGate-of_gate}
use Rattle.aig_base.proofs.circuits.Places.{gate}
use Rattle.aig_base.proofs.circuits.Roles.{one_place, only_place}
use Rattle.aig_base.proofs.lists.Positions.{position_of}
use Rattle.aig_base.proofs.renumbered.Renumberings.{gate_renumbered, place_in}
use Rattle.aig_unroll.specs.state.Numbers.{numbers_of, ArePlaces}

pub length_numbers : (raw : Raw) (order : List ℕ) → length (numbers_of raw order) ≡ raw.max_var + 1
length_numbers raw order =
    length-map (range_with_len 0 (raw.max_var + 1)) (renumbered_variable raw order)
    ∙ length-range_with_len 0 (raw.max_var + 1)

pub number_at : (raw : Raw) (order : List ℕ) (v : ℕ) → v < raw.max_var + 1
    → get_or (numbers_of raw order) v 0 ≡ renumbered_variable raw order v
number_at raw order v lt =
    let e : get_or (range_with_len 0 (raw.max_var + 1)) v 0 ≡ v =
    (let is = get_or-range_with_len 0 (raw.max_var + 1) v 0 lt in omega arith) in
    let inside : v < length (range_with_len 0 (raw.max_var + 1)) =
    omega (arith, length-range_with_len 0 (raw.max_var + 1)) in
    get_or-map (renumbered_variable raw order) (range_with_len 0 (raw.max_var + 1)) v 0 0 inside
    ∙ ap (renumbered_variable raw order) e

-- a number in a list that is known to be theirs
pub number_in : (raw : Raw) (order : List ℕ) (v : ℕ) (xs : List ℕ) → numbers_of raw order ≡ xs → v < length xs
    → get_or xs v 0 ≡ renumbered_variable raw order v
number_in raw order v xs e lt =
    ap (λ (ys : List ℕ). get_or ys v 0) (sym e)
    ∙ number_at raw order v (omega (arith, ap length e, length_numbers raw order))

-- they are those of the renumbering
pub numbers_renumber : (raw : Raw) (order : List ℕ) → IsRenumbering raw order (numbers_of raw order)
numbers_renumber raw order = record {
  size = length_numbers raw order;
  each = λ v lt. number_at raw order v (omega (arith, length_numbers raw order));
}

-- the places of the gates at the first n places of the order
pub record ArePlacesTo (raw : Raw) (order places : List ℕ) (n : ℕ) : Type 0 where
  pub size : length places ≡ length raw.gates
  pub each : (p q : ℕ) (g : Gate) → p < n → p < length order → slice_get raw.gates q ≡ Some g
      → variable g.lhs ≡ get_or order p 0 → get_or places q 0 ≡ p

module _ (raw : Raw) (sound : IsSound raw) (order : List ℕ) (canonical : IsCanonicalOrder raw order) where
  -- what stands at a place is a gate
  pub gate_there : (i : ℕ) → i < length order → IsGate raw (get_or order i 0)
  gate_there i lt = (canonical.gates (get_or order i 0)).0 (Contains-get_or order i 0 lt)

  same_position : (q r : ℕ) (g h : Gate) → slice_get raw.gates q ≡ Some g → slice_get raw.gates r ≡ Some h
      → variable g.lhs ≡ variable h.lhs → q ≡ r
  same_position q r g h at here e =
      let k : gate q ≡ gate r = one_place raw sound (gate q) (gate r) g.lhs h.lhs tt tt (g, at, refl) (h, here, refl) e in
      cc

  pub places_more : (places : List ℕ) (i r : ℕ) → i < length order → Defines raw (get_or order i 0) (definition.Gate r)
      → ArePlacesTo raw order places i → ArePlacesTo raw order (set places r i) (i + 1)
  places_more places i r lt (h, here, is) s = record {
    size = length-set places r i ∙ s.size;
    each = λ p q g below inside at of. elim (cases_lt p i) [
      | inl less ↦ get_or-set_other places r q i 0 (apart p q g less inside at of) ∙ s.each p q g less inside at of
      | inr le ↦
          (let same : p ≡ i = omega arith in
          let e : variable g.lhs ≡ variable h.lhs = of ∙ ap (λ n. get_or order n 0) same ∙ sym is in
          let k : q ≡ r = same_position q r g h at here e in
          rw k (get_or-set_same places r i 0 (omega (arith, s.size, slice_get_within raw.gates r h here)) ∙ sym same))
    ];
  }
    where
      apart : (p q : ℕ) (g : Gate) → p < i → p < length order → slice_get raw.gates q ≡ Some g
          → variable g.lhs ≡ get_or order p 0 → q ≡ r → ⊥
      apart p q g less inside at of k =
          let here' : slice_get raw.gates q ≡ Some h = rw k here in
          let f : g ≡ h = cc in
          let v = get_or order i 0 in
          let e : get_or order p 0 ≡ v = sym of ∙ ap (λ (g : Gate). variable g.lhs) f ∙ is in
          let j : p ≡ i = place_in raw sound order canonical i p v (slice_get-get_or order i 0 lt)
          (slice_get-get_or order p 0 inside ∙ ap Some e) in
          omega arith

  -- the number of a gate, whose place is one of the order
  pub gate_number : (places : List ℕ) (v q : ℕ) → Defines raw v (definition.Gate q) → ArePlaces raw order places
      → (q < length places) × (get_or places q 0 < length order)
      × (renumbered_variable raw order v ≡ length raw.inputs + length raw.latches + get_or places q 0 + 1)
  gate_number places v q (g, at, is) s =
      let (p, here) = position_of order v ((canonical.gates v).1
      (subst (IsGate raw) is (IsGate-of_gate raw q g at))) in
      let lt : p < length order = slice_get_within order p v here in
      let e : variable g.lhs ≡ get_or order p 0 = is ∙ sym (get_or_from_slice_get order p v 0 here) in
      let k : get_or places q 0 ≡ p = s.each p q g lt at e in
      let found : place_of (λ u. u == v) order ≡ Some p =
      only_place order p v here (λ j there. place_in raw sound order canonical p j v here there) in (
        omega (arith, s.size, slice_get_within raw.gates q g at),
        omega arith,
        gate_renumbered raw sound order (λ u. (canonical.gates u).0) v q p (g, at, is) found
            ∙ rw k refl,
      )
