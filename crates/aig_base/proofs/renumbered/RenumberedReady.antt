-- A binary file can hold the renumbered circuit.
use Rattle.std.proofs.Common.{◌≡◌, ◌⊎◌, inl, inr, ℕ, ◌+◌, ◌*◌, ◌%◌, ◌<◌, ◌≤◌, max, nat_eq, nat_lt, Bool}
use Rattle.std.proofs.Common.{true, false, List, length, map, get_or, Contains, Some, slice_get, option_map}
use Rattle.std.proofs.Common.{refl, sym, ◌∙◌, ap, subst, arith}
use Rattle.std.proofs.lemmas.Bool.Decides.{nat_tests}
use Rattle.std.proofs.lemmas.List.{length-map, ext_get_or, get_or_default}
use Rattle.std.proofs.lemmas.List.Elements.{All-map}
use Rattle.std.proofs.lemmas.Option.{slice_get-map, slice_get-get_or, slice_get_within, get_or_from_slice_get}
use Rattle.aig_parts.specs.declared.gate.Gate.{Gate}
use Rattle.aig_parts.specs.declared.latch.Latch.{Latch}
use Rattle.aig_parts.specs.declared.raw.Raw.{Raw}
use Rattle.aig_base.specs.Grounded as grounded
use Rattle.aig_base.specs.Grounded.{Grounded, IsSource, IsAcyclic, Level}
use Rattle.aig_parts.specs.Literal.{variable, with_sign, IsEven}
use Rattle.aig_base.specs.Order.{IsCanonicalOrder}
use Rattle.aig_base.specs.state.BinaryReady.{SectionsInOrder}
use Rattle.aig_base.specs.Renumbered.{ordered_gates, renumbered, renumbered_gate, renumbered_latch, renumbered_literal}
use Rattle.aig_base.specs.Renumbered.{renumbered_variable, ready_gate, evens_from, IsBinaryReady}
use Rattle.aig_base.specs.Sound.{IsSound}
use Rattle.aig_base.specs.Sections.{IsDefined, IsGate}
use Rattle.aig_base.proofs.lists.Positions.{unmap_option, stands_at}
use Rattle.aig_base.proofs.lists.Counting.{length-order}
use Rattle.aig_base.proofs.circuits.Defined.{defined_cases, Grounded-of_defined}
use Rattle.aig_base.proofs.circuits.EachUse.{each_use}
use Rattle.aig_base.proofs.lists.Evens.{joined, length-evens_from, get_or-evens_from}
use Rattle.aig_base.proofs.levels.OneLevel.{level_of, same_level}
use Rattle.aig_base.proofs.circuits.Places.{Place, IsSection, input, latch, gate, At, IsDefinition-of_place}
use Rattle.aig_base.proofs.renumbered.RenumberedParts.{length-ordered, ordered_at}
use Rattle.aig_base.proofs.renumbered.Renumberings.{gate_at, place_in, input_variable, latch_renumbered}
use Rattle.aig_base.proofs.renumbered.Renumberings.{gate_renumbered}
use Rattle.aig_base.proofs.circuits.Roles.{only_place, role_constant}

-- a definition's literal is even in the renumbered circuit
pub literal_even : (raw : Raw) (order : List ℕ) (l : ℕ) → IsEven l
    → renumbered_literal raw order l ≡ 2 * renumbered_variable raw order (variable l)
unfolding renumbered_literal
literal_even raw order l even = rw even refl

pub sign_cases : (l w : ℕ) → (with_sign l (2 * w) ≡ 2 * w) ⊎ (with_sign l (2 * w) ≡ 2 * w + 1)
sign_cases l w = go (nat_eq (l % 2) 0) refl
  where
    go : (b : Bool) → nat_eq (l % 2) 0 ≡ b → (with_sign l (2 * w) ≡ 2 * w) ⊎ (with_sign l (2 * w) ≡ 2 * w + 1)
    go true e = inl (rw e refl)
    go false e = let f : 2 * w % 2 ≡ 0 = omega arith in inr (rw (e, f) refl)

-- a literal is at most the odd one of its variable
pub literal_bound : (raw : Raw) (order : List ℕ) (l w : ℕ) → renumbered_variable raw order (variable l) ≤ w
    → renumbered_literal raw order l ≤ 2 * w + 1
unfolding renumbered_literal
literal_bound raw order l w le = elim (sign_cases l (renumbered_variable raw order (variable l)))
    [ inl e ↦ omega arith | inr e ↦ omega arith ]

-- a list that has the even literals in order
evens_by : (xs : List ℕ) (v n : ℕ) → length xs ≡ n → ((i : ℕ) → i < n → slice_get xs i ≡ Some (2 * (v + i)))
    → xs ≡ evens_from v n
evens_by xs v n size at =
    ext_get_or 0 xs (evens_from v n) (size ∙ sym (length-evens_from v n))
    (λ i lt. let below : i < n = omega arith in
    get_or_from_slice_get xs i (2 * (v + i)) 0 (at i below) ∙ sym (get_or-evens_from v n i 0 below))

pub evens_map : {A : Type 0} (f : A → ℕ) (xs : List A) (v n : ℕ) → length xs ≡ n
    → ((i : ℕ) (x : A) → slice_get xs i ≡ Some x → f x ≡ 2 * (v + i))
    → map f xs ≡ evens_from v n
evens_map f xs v n size each =
    evens_by (map f xs) v n (length-map xs f ∙ size)
    (λ i lt. let (x, at) = stands_at xs i (omega arith) in
    slice_get-map f xs i ∙ ap (option_map f) at ∙ ap Some (each i x at))

-- the sides of a gate whose left side is the greatest
pub goes_down : (lhs a b : ℕ) → a < lhs → b < lhs
    → ((ready_gate lhs a b).rhs0 < (ready_gate lhs a b).lhs) × ((ready_gate lhs a b).rhs1 ≤ (ready_gate lhs a b).rhs0)
goes_down lhs a b la lb = go (nat_lt a b) refl
  where
    go : (s : Bool) → nat_lt a b ≡ s → ((ready_gate lhs a b).rhs0 < (ready_gate lhs a b).lhs)
        × ((ready_gate lhs a b).rhs1 ≤ (ready_gate lhs a b).rhs0)
    go true e = let k : a ≤ b = grind (arith, nat_tests) in rw e (lb, k)
    go false e = let k : b ≤ a = grind (arith, nat_tests) in rw e (la, k)

pub lhs_stays : (lhs a b : ℕ) → (ready_gate lhs a b).lhs ≡ lhs
lhs_stays lhs a b = go (nat_lt a b) refl
  where
    go : (s : Bool) → nat_lt a b ≡ s → (ready_gate lhs a b).lhs ≡ lhs
    go true e = rw e refl
    go false e = rw e refl

module _ (raw : Raw) (sound : IsSound raw) (order : List ℕ) (canonical : IsCanonicalOrder raw order) where
  gates_only : (v : ℕ) → Contains order v → IsGate raw v
  gates_only v = (canonical.gates v).0

  even_of : (d : Place) (l : ℕ) → IsSection d → At raw d l → IsEven l
  even_of d l h at = (IsDefinition-of_place raw sound d l h at).0

  -- the literals that stand for definitions
  pub input_literal : (p l : ℕ) → slice_get raw.inputs p ≡ Some l → renumbered_literal raw order l ≡ 2 * (p + 1)
  input_literal p l at =
      literal_even raw order l (even_of (input p) l tt at)
      ∙ ap (λ v. 2 * v) (input_variable raw sound order gates_only (variable l) p (l, at, refl))

  pub latch_literal : (p : ℕ) (x : Latch) → slice_get raw.latches p ≡ Some x
      → renumbered_literal raw order x.lit ≡ 2 * (length raw.inputs + p + 1)
  latch_literal p x at =
      literal_even raw order x.lit (even_of (latch p) x.lit tt (x, at, refl))
      ∙ ap (λ v. 2 * v) (latch_renumbered raw sound order gates_only (variable x.lit) p (x, at, refl))

  -- the variable at a place of the order
  pub place_variable : (i : ℕ) → i < length order
      → renumbered_variable raw order (get_or order i 0) ≡ length raw.inputs + length raw.latches + i + 1
  place_variable i lt =
      let (g, q, at, is) = gate_at raw sound order canonical i lt in
      let here = slice_get-get_or order i 0 lt in
      gate_renumbered raw sound order gates_only (get_or order i 0) q i (g, at, is)
      (only_place order i (get_or order i 0) here
      (λ j stands. place_in raw sound order canonical i j (get_or order i 0) here stands))

  pub gate_literal : (q i : ℕ) (g : Gate) → slice_get raw.gates q ≡ Some g → i < length order
      → variable g.lhs ≡ get_or order i 0
      → renumbered_literal raw order g.lhs ≡ 2 * (length raw.inputs + length raw.latches + i + 1)
  gate_literal q i g at lt is =
      literal_even raw order g.lhs (even_of (gate q) g.lhs tt (g, at, refl))
      ∙ ap (λ v. 2 * renumbered_variable raw order v) is
      ∙ ap (λ v. 2 * v) (place_variable i lt)

  pub constant_variable : renumbered_variable raw order 0 ≡ 0
  unfolding renumbered_variable
  constant_variable = let e = role_constant raw sound order gates_only in rw e refl

  source_bound : (v : ℕ) → IsSource raw v → renumbered_variable raw order v ≤ length raw.inputs + length raw.latches
  source_bound v grounded.IsSource.constant = omega (arith, constant_variable)
  source_bound v (grounded.IsSource.input p l at) =
      let k = slice_get_within raw.inputs p l at in
      omega (arith, input_variable raw sound order gates_only (variable l) p (l, at, refl))
  source_bound v (grounded.IsSource.latch p x at) =
      let k = slice_get_within raw.latches p x at in
      omega (arith, latch_renumbered raw sound order gates_only (variable x.lit) p (x, at, refl))

  -- what has a lower level than a gate stands before it
  lower_place : (i j m n : ℕ) → i < length order → j < length order → Level raw (get_or order j 0) m
      → Level raw (get_or order i 0) n → m < n → j < i
  lower_place i j m n lt below lj li less = elim (cases i j) [
    | inl before ↦ before
    | inr o ↦ elim o [
      | inl same ↦
          let li' : Level raw (get_or order j 0) n = subst (λ k. Level raw (get_or order k 0) n) (sym same) li in
          absurd (omega (arith, same_level sound lj li'))
      | inr after ↦
          let (a, b, la, lb, which) = canonical.ordered i j 0 after below in
          absurd (omega (arith, same_level sound la li, same_level sound lb lj))
    ]
  ]
    where
      cases : (i j : ℕ) → (j < i) ⊎ ((j ≡ i) ⊎ (i < j))
      cases i j = grind arith

  lower_variable : (i v m n : ℕ) → i < length order → IsDefined raw v → Level raw v m
      → Level raw (get_or order i 0) n → m < n
      → renumbered_variable raw order v ≤ length raw.inputs + length raw.latches + i
  lower_variable i v m n lt defined lv li less = elim (defined_cases raw v defined) [
    | inl source ↦ omega (arith, source_bound v source)
    | inr is_gate ↦
        let (j, below, is) = (canonical.gates v).1 is_gate in
        let same : get_or order j 0 ≡ v = get_or_default order j 0 v below ∙ is in
        let before = lower_place i j m n lt below (subst (λ u. Level raw u m) (sym same) lv) li less in
        omega (arith, place_variable j below, ap (renumbered_variable raw order) same)
  ]

  -- the sides of the gate at a place
  side_below : IsAcyclic raw → (q i : ℕ) (g : Gate) → slice_get raw.gates q ≡ Some g → i < length order
      → variable g.lhs ≡ get_or order i 0
      → (renumbered_literal raw order g.rhs0 < renumbered_literal raw order g.lhs)
      × (renumbered_literal raw order g.rhs1 < renumbered_literal raw order g.lhs)
  side_below acyclic q i g at lt is =
      let sides = each_use (λ l. IsDefined raw (variable l)) raw sound.defined in
      let here = get_or_from_slice_get raw.gates q g g at in
      let (d0, d1) = subst (λ (h : Gate). IsDefined raw (variable h.rhs0) × IsDefined raw (variable h.rhs1)) here
      (sides.sides q g (slice_get_within raw.gates q g at)) in
      let (a, la) = level_of (Grounded-of_defined raw acyclic (variable g.rhs0) d0) in
      let (b, lb) = level_of (Grounded-of_defined raw acyclic (variable g.rhs1) d1) in
      let own : Level raw (get_or order i 0) (max a b + 1) =
      subst (λ u. Level raw u (max a b + 1)) is (grounded.Level.gate q g a b at la lb) in
      let v0 = lower_variable i (variable g.rhs0) a (max a b + 1) lt d0 la own (omega arith) in
      let v1 = lower_variable i (variable g.rhs1) b (max a b + 1) lt d1 lb own (omega arith) in
      let e = gate_literal q i g at lt is in
      let b0 = literal_bound raw order g.rhs0 (length raw.inputs + length raw.latches + i) v0 in
      let b1 = literal_bound raw order g.rhs1 (length raw.inputs + length raw.latches + i) v1 in
      (omega arith, omega arith)

  -- a gate of the order, and its place
  pub ordered_gate : (i : ℕ) (g : Gate) → slice_get (ordered_gates raw order) i ≡ Some g
      → (q : ℕ) × (i < length order) × (slice_get raw.gates q ≡ Some g) × (variable g.lhs ≡ get_or order i 0)
  ordered_gate i g here =
      let k = slice_get_within (ordered_gates raw order) i g here in
      let lt : i < length order =
      omega (arith, length-ordered raw sound order canonical, length-order raw sound order canonical) in
      let (h, q, at, is, stands) = ordered_at raw sound order canonical i lt in
      let same : h ≡ g = cc in
      (q, lt, at ∙ ap Some same, subst (λ (h : Gate). variable h.lhs ≡ get_or order i 0) same is)

  pub sections : SectionsInOrder (renumbered raw order).inputs (renumbered raw order).latches
      (renumbered raw order).gates (renumbered raw order).max_var
  sections =
      let li = length-map raw.inputs (renumbered_literal raw order) in
      let ll = length-map raw.latches (renumbered_latch raw order) in
      let lg = length-map (ordered_gates raw order) (renumbered_gate raw order)
      ∙ length-ordered raw sound order canonical in
      record {
        size = omega arith;
        inputs_are = evens_map (renumbered_literal raw order) raw.inputs 1 _ (sym li) (λ p l at. let e =
            input_literal p l at in omega arith);
        latches_are = evens_map (λ x. x.lit) (renumbered raw order).latches _ _ refl (λ p y at.
            let (x, here, is) = unmap_option (renumbered_latch raw order) (slice_get raw.latches p) y
            (sym (slice_get-map (renumbered_latch raw order) raw.latches p) ∙ at) in
            let e = latch_literal p x here in
            let f : y.lit ≡ renumbered_literal raw order x.lit = ap (λ z. z.lit) (sym is) in
            omega arith);
        gates_are = evens_map (λ g. g.lhs) (renumbered raw order).gates _ _ refl (λ i y at.
            let (g, here, is) = unmap_option (renumbered_gate raw order) (slice_get (ordered_gates raw order) i) y
            (sym (slice_get-map (renumbered_gate raw order) (ordered_gates raw order) i) ∙ at) in
            let (q, lt, stands, place) = ordered_gate i g here in
            let e = gate_literal q i g stands lt place in
            let f : y.lhs ≡ renumbered_literal raw order g.lhs = ap (λ z. z.lhs) (sym is)
            ∙ lhs_stays (renumbered_literal raw order g.lhs) (renumbered_literal raw order g.rhs0)
            (renumbered_literal raw order g.rhs1) in
            omega arith);
      }

  pub renumbered_ready : IsAcyclic raw → IsBinaryReady (renumbered raw order)
  renumbered_ready acyclic = record {
    in_order = joined (renumbered raw order) sections;
    gates = All-map (λ g. (g.rhs0 < g.lhs) × (g.rhs1 ≤ g.rhs0)) (renumbered_gate raw order)
        (ordered_gates raw order) (λ i d lt.
        let (g, here) = stands_at (ordered_gates raw order) i lt in
        let (q, below, stands, place) = ordered_gate i g here in
        let (b0, b1) = side_below acyclic q i g stands below place in
        let same : g ≡ get_or (ordered_gates raw order) i d =
        sym (get_or_from_slice_get (ordered_gates raw order) i g d here) in
        subst (λ (h : Gate). ((renumbered_gate raw order h).rhs0 < (renumbered_gate raw order h).lhs)
        × ((renumbered_gate raw order h).rhs1 ≤ (renumbered_gate raw order h).rhs0)) same
        (goes_down (renumbered_literal raw order g.lhs) (renumbered_literal raw order g.rhs0)
        (renumbered_literal raw order g.rhs1) b0 b1));
  }
