-- The table of a renumbering, entry by entry.
use Rattle.std.proofs.Common.{◌≡◌, ◌⊎◌, inl, inr, ℕ, zero, suc, ◌+◌, ◌<◌, ◌==◌, Bool, true, false, List, [], ◌∷◌, ◌++◌}
use Rattle.std.proofs.Common.{length, map, take, set, get_or, Contains, Some, None, slice_get, option_map, refl, sym}
use Rattle.std.proofs.Common.{◌∙◌, ap, subst, arith}
use Rattle.std.specs.List.{find, filter_map}
use Rattle.std.proofs.lemmas.Bool.Decides.{nat_tests}
use Rattle.std.proofs.lemmas.List.{take_more, length-take, length-set, get_or-take, get_or-set_same, get_or-set_other}
use Rattle.std.proofs.lemmas.List.{append-nil}
use Rattle.std.proofs.lemmas.List.Elements.{All-contains, Contains-append_left, Contains-append_right, Contains-get_or}
use Rattle.std.proofs.lemmas.List.Elements.{filter_map-append}
use Rattle.std.proofs.lemmas.Option.{slice_get-map, slice_get-get_or, slice_get_within, get_or_from_slice_get}
use Rattle.aig_base.specs.declared.circuit.definition.Definition.TheVariants as definition
use Rattle.aig_parts.specs.declared.gate.Gate.{Gate}
use Rattle.aig_parts.specs.declared.latch.Latch.{Latch}
use Rattle.aig_parts.specs.declared.raw.Raw.{Raw}
use Rattle.aig_base.specs.Definition.{Defines, IsFree}
use Rattle.aig_parts.specs.Literal.{variable}
use Rattle.aig_base.specs.Order.{IsCanonicalOrder}
use Rattle.aig_base.specs.Renumbered.{gate_of, ordered_gates, renumbered_variable, role_variable}
use Rattle.aig_base.specs.RenumberingTable.{IsRenumbering}
use Rattle.aig_base.specs.Role.{place_of, role}
use Rattle.aig_base.specs.Sections.{definitions, uses, IsGate}
use Rattle.aig_base.specs.Sound.{IsSound, IsInRange}
use Rattle.aig_base.proofs.lists.Counting.{order_once}
use Rattle.aig_base.proofs.lists.Joined.{All-left}
use Rattle.aig_base.proofs.circuits.Places.{Place, IsSection, constant, input, latch, gate, odd, At}
use Rattle.aig_base.proofs.lists.Positions.{unmap, Contains-from_slice_get, position_of}
use Rattle.aig_base.proofs.circuits.Roles.{eqb-same, eqb→eq, one_place, only_place, no_place, role_input, role_latch}
use Rattle.aig_base.proofs.circuits.Roles.{role_gate_at, role_other}

pub Contains-map : {A B : Type 0} (f : A → B) (xs : List A) (i : ℕ) (x : A) → slice_get xs i ≡ Some x
    → Contains (map f xs) (f x)
Contains-map f xs i x at = Contains-from_slice_get (map f xs) i (f x) (slice_get-map f xs i ∙ ap (option_map f) at)

-- a definition is one of the definitions
pub definition_of_place : (raw : Raw) (d : Place) (l : ℕ) → IsSection d → At raw d l → Contains (definitions raw) l
definition_of_place raw constant l h at = absurd h
definition_of_place raw (input p) l h at =
    Contains-append_left _ _ l (Contains-append_left raw.inputs (map (λ x. x.lit) raw.latches) l
    (Contains-from_slice_get raw.inputs p l at))
definition_of_place raw (latch p) l h (x, at, is) =
    Contains-append_left _ _ l (Contains-append_right raw.inputs (map (λ x. x.lit) raw.latches) l
    (subst (Contains (map (λ x. x.lit) raw.latches)) is (Contains-map (λ (x : Latch). x.lit) raw.latches p x at)))
definition_of_place raw (gate q) l h (g, at, is) =
    Contains-append_right (raw.inputs ++ map (λ x. x.lit) raw.latches) (map (λ g. g.lhs) raw.gates) l
    (subst (Contains (map (λ g. g.lhs) raw.gates)) is (Contains-map (λ (g : Gate). g.lhs) raw.gates q g at))
definition_of_place raw odd l h at = absurd h

-- a variable that nothing defines is at no place
pub not_free : (raw : Raw) (d : Place) (l v : ℕ) → IsSection d → At raw d l → variable l ≡ v → IsFree raw v → ⊥
not_free raw d l v h at is free =
    let (i, here) = position_of (definitions raw) l (definition_of_place raw d l h at) in
    free (subst (Contains (map variable (definitions raw))) is (Contains-map variable (definitions raw) i l here))

-- a definition is within the variables
pub below_max : (raw : Raw) → IsSound raw → (d : Place) (l : ℕ) → IsSection d → At raw d l
    → variable l < raw.max_var + 1
below_max raw sound d l h at =
    let r : IsInRange raw l = All-contains (IsInRange raw) (definitions raw) l
    (All-left (IsInRange raw) (definitions raw) (uses raw) sound.in_range)
    (definition_of_place raw d l h at) in
    omega arith

pub nothing : (raw : Raw) (v : ℕ) → Contains [] v → IsGate raw v
nothing raw v h = absurd (omega (arith, h.1))

-- the variable that stands for an input
pub input_variable : (raw : Raw) → IsSound raw → (order : List ℕ) → ((v : ℕ) → Contains order v → IsGate raw v)
    → (v p : ℕ) → Defines raw v (definition.Input p) → renumbered_variable raw order v ≡ p + 1
unfolding renumbered_variable
input_variable raw sound order gates v p (l, at, is) =
    let e = role_input raw sound order gates p l at in
    subst (λ u. role_variable raw (role raw order u) ≡ p + 1) is (rw e refl)

-- the variable that stands for a latch
pub latch_renumbered : (raw : Raw) → IsSound raw → (order : List ℕ) → ((v : ℕ) → Contains order v → IsGate raw v)
    → (v p : ℕ) → Defines raw v (definition.Latch p) → renumbered_variable raw order v ≡ length raw.inputs + p + 1
unfolding renumbered_variable
latch_renumbered raw sound order gates v p (x, at, is) =
    let e = role_latch raw sound order gates p x at in
    subst (λ u. role_variable raw (role raw order u) ≡ length raw.inputs + p + 1) is (rw e refl)

-- the variable that stands for a gate, by its place in the order
pub gate_renumbered : (raw : Raw) → IsSound raw → (order : List ℕ) → ((v : ℕ) → Contains order v → IsGate raw v)
    → (v q i : ℕ) → Defines raw v (definition.Gate q) → place_of (λ u. u == v) order ≡ Some i
    → renumbered_variable raw order v ≡ length raw.inputs + length raw.latches + i + 1
unfolding renumbered_variable
gate_renumbered raw sound order gates v q i (g, at, is) found =
    let f : place_of (λ u. u == variable g.lhs) order ≡ Some i = rw is found in
    let e = role_gate_at raw sound order gates q i g at f in
    subst (λ u. role_variable raw (role raw order u) ≡ length raw.inputs + length raw.latches + i + 1) is (rw e refl)

-- where no gate is numbered yet, none stands for a gate
pub gate_not_yet : (raw : Raw) → IsSound raw → (v q : ℕ) → Defines raw v (definition.Gate q)
    → renumbered_variable raw [] v ≡ 0
unfolding renumbered_variable
gate_not_yet raw sound v q (g, at, is) =
    let e = role_other raw sound [] (nothing raw) v
    (λ p l here same. let k = one_place raw sound (input p) (gate q) l g.lhs tt tt here (g, at, refl) (same
    ∙ sym is) in cc)
    (λ p x here same. let k = one_place raw sound (latch p) (gate q) x.lit g.lhs tt tt (x, here, refl) (g, at, refl)
    (same ∙ sym is) in cc)
    refl in
    rw e refl

-- none stands for a variable that nothing defines
pub free_variable : (raw : Raw) → IsSound raw → (order : List ℕ) → ((v : ℕ) → Contains order v → IsGate raw v)
    → (v : ℕ) → IsFree raw v → renumbered_variable raw order v ≡ 0
unfolding renumbered_variable
free_variable raw sound order gates v free =
    let e = role_other raw sound order gates v
    (λ p l here same. not_free raw (input p) l v tt here same free)
    (λ p x here same. not_free raw (latch p) x.lit v tt (x, here, refl) same free)
    (no_place order v (λ j at. let (g, q, here, same) =
    unmap (λ (g : Gate). variable g.lhs) raw.gates v (gates v (Contains-from_slice_get order j v at)) in
    not_free raw (gate q) g.lhs v tt (g, here, refl) same free)) in
    rw e refl

-- gates found by their variables
find_only : {A : Type 0} (test : A → Bool) (xs : List A) (i : ℕ) (x : A) → slice_get xs i ≡ Some x → test x ≡ true
    → ((j : ℕ) (y : A) → slice_get xs j ≡ Some y → test y ≡ true → y ≡ x) → find test xs ≡ Some x
find_only test [] i x at passes only = cc
find_only test (y ∷ ys) i x at passes only =
    go (test y) refl (λ j here. find_only test ys j x here passes (λ k z. only (suc k) z)) i at
  where
    go : (b : Bool) → test y ≡ b → ((j : ℕ) → slice_get ys j ≡ Some x → find test ys ≡ Some x) → (i : ℕ)
        → slice_get (y ∷ ys) i ≡ Some x → find test (y ∷ ys) ≡ Some x
    go true e later i at = let same : y ≡ x = only 0 y refl e in rw (e, same) refl
    go false e later zero at = let same : y ≡ x = cc in let f : test y ≡ true = rw same passes in cc
    go false e later (suc i) at = rw e (later i at)

find_none : {A : Type 0} (test : A → Bool) (xs : List A)
    → ((j : ℕ) (y : A) → slice_get xs j ≡ Some y → test y ≡ true → ⊥) → find test xs ≡ None
find_none test [] never = refl
find_none test (y ∷ ys) never = go (test y) refl (find_none test ys (λ j z. never (suc j) z))
  where
    go : (b : Bool) → test y ≡ b → find test ys ≡ None → find test (y ∷ ys) ≡ None
    go true e later = absurd (never 0 y refl e)
    go false e later = rw e later

-- a gate that is found is one of the gates
find_stands : {A : Type 0} (test : A → Bool) (xs : List A) (x : A) → find test xs ≡ Some x
    → (i : ℕ) × (slice_get xs i ≡ Some x) × (test x ≡ true)
find_stands test [] x h = cc
find_stands test (y ∷ ys) x h = go (test y) refl (find_stands test ys x)
  where
    go : (b : Bool) → test y ≡ b → (find test ys ≡ Some x → (i : ℕ) × (slice_get ys i ≡ Some x) × (test x ≡ true))
        → (i : ℕ) × (slice_get (y ∷ ys) i ≡ Some x) × (test x ≡ true)
    go true e later =
        let f : Some y ≡ Some x = rw e at h in
        let same : y ≡ x = cc in
        (0, f, subst (λ z. test z ≡ true) same e)
    go false e later =
        let f : find test ys ≡ Some x = rw e at h in
        let (i, at, passes) = later f in (suc i, at, passes)

pub gate_stands : (raw : Raw) (v : ℕ) (g : Gate) → gate_of raw v ≡ Some g
    → (q : ℕ) × (slice_get raw.gates q ≡ Some g) × (variable g.lhs ≡ v)
gate_stands raw v g h =
    let (q, at, passes) = find_stands (λ (g : Gate). variable g.lhs == v) raw.gates g h in
    (q, at, eqb→eq (variable g.lhs) v passes)

pub gate_found : (raw : Raw) → IsSound raw → (v q : ℕ) (g : Gate) → slice_get raw.gates q ≡ Some g
    → variable g.lhs ≡ v → gate_of raw v ≡ Some g
gate_found raw sound v q g at is =
    find_only (λ (h : Gate). variable h.lhs == v) raw.gates q g at (rw is (eqb-same v))
    (λ j h here test.
    let k : gate j ≡ gate q = one_place raw sound (gate j) (gate q) h.lhs g.lhs tt tt (h, here, refl) (g, at, refl)
    (eqb→eq (variable h.lhs) v test ∙ sym is) in
    let e : j ≡ q = cc in
    let f : slice_get raw.gates q ≡ Some h = subst (λ n. slice_get raw.gates n ≡ Some h) e here in
    cc)

pub no_gate_found : (raw : Raw) (v : ℕ)
    → ((q : ℕ) (g : Gate) → slice_get raw.gates q ≡ Some g → variable g.lhs ≡ v → ⊥) → gate_of raw v ≡ None
no_gate_found raw v never = find_none (λ (h : Gate). variable h.lhs == v) raw.gates
    (λ j h here test. never j h here (eqb→eq (variable h.lhs) v test))

-- one more gate of the order
pub ordered_some : (raw : Raw) (order : List ℕ) (i : ℕ) (g : Gate) → i < length order
    → gate_of raw (get_or order i 0) ≡ Some g
    → ordered_gates raw (take (i + 1) order) ≡ ordered_gates raw (take i order) ++ g ∷ []
ordered_some raw order i g lt is =
    ap (filter_map (gate_of raw)) (take_more order i 0 lt)
    ∙ filter_map-append (gate_of raw) (take i order) (get_or order i 0 ∷ [])
    ∙ ap (λ (gs : List Gate). ordered_gates raw (take i order) ++ gs) (rw is refl)

pub ordered_none : (raw : Raw) (order : List ℕ) (i : ℕ) → i < length order → gate_of raw (get_or order i 0) ≡ None
    → ordered_gates raw (take (i + 1) order) ≡ ordered_gates raw (take i order)
ordered_none raw order i lt is =
    ap (filter_map (gate_of raw)) (take_more order i 0 lt)
    ∙ filter_map-append (gate_of raw) (take i order) (get_or order i 0 ∷ [])
    ∙ ap (λ (gs : List Gate). ordered_gates raw (take i order) ++ gs) (rw is refl)
    ∙ append-nil (ordered_gates raw (take i order))

-- what stands in the front of a list
get_take : (n : ℕ) (xs : List ℕ) (j v : ℕ) → slice_get (take n xs) j ≡ Some v → slice_get xs j ≡ Some v
get_take n xs j v at =
    let lt : j < length (take n xs) = slice_get_within (take n xs) j v at in
    let below : j < length xs = omega (arith, length-take n xs) in
    let front : j < n = omega (arith, length-take n xs) in
    slice_get-get_or xs j v below ∙ ap Some (sym (get_or-take n xs j v front)
    ∙ get_or_from_slice_get (take n xs) j v v at)

place_push : (xs : List ℕ) (u v : ℕ) → (u ≡ v → ⊥) → place_of (λ w. w == v) (xs ++ u ∷ []) ≡ place_of (λ w. w == v) xs
place_push [] u v ne = let e : (u == v) ≡ false = grind (arith, nat_tests) in rw e refl
place_push (x ∷ xs) u v ne = rw (place_push xs u v ne) refl

-- another variable that is added to the order changes nothing
kept_variable : (raw : Raw) (before after : List ℕ) (u v : ℕ) → (u ≡ v → ⊥) → after ≡ before ++ u ∷ []
    → renumbered_variable raw before v ≡ renumbered_variable raw after v
unfolding renumbered_variable
kept_variable raw before after u v ne more = let e = place_push before u v ne in rw (more, e) refl

module _ (raw : Raw) (sound : IsSound raw) (order : List ℕ) (canonical : IsCanonicalOrder raw order) where
  front_gates : (i v : ℕ) → Contains (take i order) v → IsGate raw v
  front_gates i v h = let (j, at) = position_of (take i order) v h in
      (canonical.gates v).0 (Contains-from_slice_get order j v (get_take i order j v at))

  -- the gate that stands at a place of the order
  pub gate_at : (i : ℕ) → i < length order
      → (g : Gate) × (q : ℕ) × (slice_get raw.gates q ≡ Some g) × (variable g.lhs ≡ get_or order i 0)
  gate_at i lt = unmap (λ (g : Gate). variable g.lhs) raw.gates (get_or order i 0)
      ((canonical.gates (get_or order i 0)).0 (Contains-get_or order i 0 lt))

  -- places of the order
  pub place_in : (i j v : ℕ) → slice_get order i ≡ Some v → slice_get order j ≡ Some v → j ≡ i
  place_in i j v at here = elim (cases i j) [
    | inl lt ↦ absurd (order_once raw sound order canonical v (i, j, lt, at, here))
    | inr o ↦ elim o [
      | inl eq ↦ eq
      | inr gt ↦ absurd (order_once raw sound order canonical v (j, i, gt, here, at))
    ]
  ]
    where
      cases : (i j : ℕ) → (i < j) ⊎ ((j ≡ i) ⊎ (j < i))
      cases i j = grind arith

  pub order_below : (i : ℕ) → i < length order → get_or order i 0 < raw.max_var + 1
  order_below i lt = let (g, q, at, is) = gate_at i lt in
      rw (← is) (below_max raw sound (gate q) g.lhs tt (g, at, refl))

  -- one more gate is numbered
  pub renumbering_more : (table : List ℕ) (i n : ℕ) → IsRenumbering raw (take i order) table → i < length order
      → n ≡ length raw.inputs + length raw.latches + i + 1
      → IsRenumbering raw (take (i + 1) order) (set table (get_or order i 0) n)
  renumbering_more table i n so lt is =
      let u : ℕ = get_or order i 0 in
      let more : take (i + 1) order ≡ take i order ++ u ∷ [] = take_more order i 0 lt in
      let (g, q, at, same) = gate_at i lt in
      let here : slice_get order i ≡ Some u = slice_get-get_or order i 0 lt in
      let long : i < length (take (i + 1) order) = omega (arith, length-take (i + 1) order) in
      let stands : slice_get (take (i + 1) order) i ≡ Some u =
      slice_get-get_or (take (i + 1) order) i 0 long ∙ ap Some (get_or-take (i + 1) order i 0 (omega arith)) in
      let found : place_of (λ w. w == u) (take (i + 1) order) ≡ Some i =
      only_place (take (i + 1) order) i u stands (λ j is. place_in i j u here (get_take (i + 1) order j u is)) in
      let number : renumbered_variable raw (take (i + 1) order) u ≡ n =
      gate_renumbered raw sound (take (i + 1) order) (front_gates (i + 1)) u q i (g, at, same) found ∙ sym is in
      let inside : u < length table = omega (arith, so.size, order_below i lt) in
      record {
        size = length-set table u n ∙ so.size;
        each = λ v below. elim (cases v u) [
          | inl e ↦ subst (λ w. get_or (set table u n) w 0 ≡ renumbered_variable raw (take (i + 1) order) w) (sym e)
              (get_or-set_same table u n 0 inside ∙ sym number)
          | inr ne ↦ get_or-set_other table u v n 0 ne ∙ so.each v (omega (arith, length-set table u n))
              ∙ kept_variable raw (take i order) (take (i + 1) order) u v (λ e. ne (sym e)) more
        ];
      }
    where
      cases : (v u : ℕ) → (v ≡ u) ⊎ (v ≡ u → ⊥)
      cases v u = grind arith
