-- What a variable is, looked up.
use Rattle.std.proofs.Common.{◌≡◌, ◌<◌, ℕ, zero, suc, ◌==◌, Bool, true, false, List, [], ◌∷◌, map, Contains}
use Rattle.std.proofs.Common.{Some}
use Rattle.std.proofs.Common.{None, length, slice_get, option_map, refl, sym, ◌∙◌, ap, subst, arith, eq-eqb}
use Rattle.std.proofs.lemmas.Bool.Decides.{nat_tests}
use Rattle.std.proofs.lemmas.Option.{slice_get-map, slice_get_within}
use Rattle.aig_bytes.proofs.Results.{has_none}
use Rattle.aig_parts.specs.declared.gate.Gate.{Gate}
use Rattle.aig_parts.specs.declared.latch.Latch.{Latch}
use Rattle.aig_parts.specs.declared.raw.Raw.{Raw}
use Rattle.aig_parts.specs.Literal.{variable}
use Rattle.aig_base.specs.Sections.{IsGate}
use Rattle.aig_base.specs.Sound.{IsSound}
use Rattle.aig_base.specs.Role as roles
use Rattle.aig_base.specs.Role.{place_of, Role, role}
use Rattle.aig_base.proofs.circuits.Gates.{same_literal}
use Rattle.aig_base.proofs.circuits.Places.{Place, IsSection, input, latch, gate, At, same_place, IsDefinition-of_place}
use Rattle.aig_base.proofs.lists.Positions.{unmap, unmap_option, position_of, Contains-from_slice_get}

-- what stands at the place that was found
pub place_found : {A : Type 0} → (test : A → Bool) (xs : List A) (i : ℕ) → place_of test xs ≡ Some i
    → (x : A) × (slice_get xs i ≡ Some x) × (test x ≡ true)
place_found test [] i h = cc
place_found test (x ∷ xs) i h = go (test x) refl (λ j. place_found test xs j)
  where
    go : (b : Bool) → test x ≡ b → ((j : ℕ) → place_of test xs ≡ Some j
        → (y : _) × (slice_get xs j ≡ Some y) × (test y ≡ true))
        → (y : _) × (slice_get (x ∷ xs) i ≡ Some y) × (test y ≡ true)
    go true e later =
        let f : Some 0 ≡ Some i = rw e at h in
        let is : 0 ≡ i = cc in
        (x, subst (λ n. slice_get (x ∷ xs) n ≡ Some x) is refl, e)
    go false e later =
        let f : option_map suc (place_of test xs) ≡ Some i = rw e at h in
        let (j, at, is) = unmap_option suc (place_of test xs) i f in
        let (y, here, holds) = later j at in
        (y, subst (λ n. slice_get (x ∷ xs) n ≡ Some y) is here, holds)

pub place_within : {A : Type 0} (test : A → Bool) (xs : List A) (i : ℕ) → place_of test xs ≡ Some i → i < length xs
place_within test xs i h = let (x, at, passes) = place_found test xs i h in slice_get_within xs i x at

-- a place is found where one passes
pub place_some : {A : Type 0} → (test : A → Bool) (xs : List A) (i : ℕ) (x : A) → slice_get xs i ≡ Some x
    → test x ≡ true → (j : ℕ) × (place_of test xs ≡ Some j)
place_some test [] i x at h = cc
place_some test (y ∷ ys) zero x at h = let same : y ≡ x = cc in (0, rw (same, h) refl)
place_some test (y ∷ ys) (suc i) x at h = go (test y) refl (place_some test ys i x at h)
  where
    go : (b : Bool) → test y ≡ b → (j : ℕ) × (place_of test ys ≡ Some j) → (j : ℕ) × (place_of test (y ∷ ys) ≡ Some j)
    go true e k = (0, rw e refl)
    go false e (j, is) = (suc j, rw (e, is) refl)

pub eqb-same : (n : ℕ) → (n == n) ≡ true
eqb-same n = eq-eqb n n refl

pub eqb→eq : (m n : ℕ) → (m == n) ≡ true → m ≡ n
eqb→eq m n h = grind (arith, nat_tests)

-- the only place of a number is the one that is found
pub only_place : (xs : List ℕ) (i v : ℕ) → slice_get xs i ≡ Some v → ((j : ℕ) → slice_get xs j ≡ Some v → j ≡ i)
    → place_of (λ u. u == v) xs ≡ Some i
only_place xs i v at only =
    let (j, found) = place_some (λ u. u == v) xs i v at (eqb-same v) in
    let (u, here, is) = place_found (λ u. u == v) xs j found in
    let e : j ≡ i = only j (here ∙ ap Some (eqb→eq u v is)) in
    found ∙ ap Some e

-- a number that stands nowhere is not found
pub no_place : (xs : List ℕ) (v : ℕ) → ((j : ℕ) → slice_get xs j ≡ Some v → ⊥) → place_of (λ u. u == v) xs ≡ None
no_place xs v never = has_none _ (λ j is.
    let (u, here, test) = place_found (λ u. u == v) xs j is in never j (here ∙ ap Some (eqb→eq u v test)))

module _ (raw : Raw) (sound : IsSound raw) where
  -- two definitions of one variable are one place
  pub one_place : (d e : Place) (l k : ℕ) → IsSection d → IsSection e → At raw d l → At raw e k
      → variable l ≡ variable k → d ≡ e
  one_place d e l k hd he at here same =
      let f : l ≡ k = same_literal l k (IsDefinition-of_place raw sound d l hd at)
      (IsDefinition-of_place raw sound e k he here) same in
      same_place raw sound d e k (subst (At raw d) f at) here

  positive : (d : Place) (l : ℕ) → IsSection d → At raw d l → variable l ≡ 0 → ⊥
  positive d l h at e = let k = IsDefinition-of_place raw sound d l h at in omega arith

  input_at : (j v : ℕ) → slice_get (map variable raw.inputs) j ≡ Some v
      → (l : ℕ) × (slice_get raw.inputs j ≡ Some l) × (variable l ≡ v)
  input_at j v at = unmap_option variable (slice_get raw.inputs j) v (sym (slice_get-map variable raw.inputs j) ∙ at)

  latch_at : (j v : ℕ) → slice_get (map (λ x. variable x.lit) raw.latches) j ≡ Some v
      → (x : Latch) × (slice_get raw.latches j ≡ Some x) × (variable x.lit ≡ v)
  latch_at j v at =
      unmap_option (λ (x : Latch). variable x.lit) (slice_get raw.latches j) v
      (sym (slice_get-map (λ (x : Latch). variable x.lit) raw.latches j) ∙ at)

  pub no_input : (v : ℕ) → ((p l : ℕ) → slice_get raw.inputs p ≡ Some l → variable l ≡ v → ⊥)
      → place_of (λ u. u == v) (map variable raw.inputs) ≡ None
  no_input v h = no_place (map variable raw.inputs) v (λ j at. let (l, here, is) = input_at j v at in h j l here is)

  pub no_latch : (v : ℕ) → ((p : ℕ) (x : Latch) → slice_get raw.latches p ≡ Some x → variable x.lit ≡ v → ⊥)
      → place_of (λ u. u == v) (map (λ x. variable x.lit) raw.latches) ≡ None
  no_latch v h = no_place (map (λ (x : Latch). variable x.lit) raw.latches) v (λ j at. let (x, here, is) =
      latch_at j v at in h j x here is)

  module _ (order : List ℕ) (gates : (v : ℕ) → Contains order v → IsGate raw v) where
    pub no_gate : (v : ℕ) → ((q : ℕ) (g : Gate) → slice_get raw.gates q ≡ Some g → variable g.lhs ≡ v → ⊥)
        → place_of (λ u. u == v) order ≡ None
    no_gate v h = no_place order v (λ j at.
        let (g, q, here, same) = unmap (λ (g : Gate). variable g.lhs) raw.gates v
        (gates v (Contains-from_slice_get order j v at)) in h q g here same)

    -- an input is looked up as itself
    pub role_input : (p l : ℕ) → slice_get raw.inputs p ≡ Some l → role raw order (variable l) ≡ roles.input p
    role_input p l at =
        let e : place_of (λ u. u == variable l) (map variable raw.inputs) ≡ Some p =
        only_place (map variable raw.inputs) p (variable l) (slice_get-map variable raw.inputs p
        ∙ ap (option_map variable) at)
        (λ j is. let (k, here, same) = input_at j (variable l) is in
        let f = one_place (input j) (input p) k l tt tt here at same in cc) in
        rw e refl

    -- a latch is looked up as itself
    pub role_latch : (p : ℕ) (x : Latch) → slice_get raw.latches p ≡ Some x
        → role raw order (variable x.lit) ≡ roles.latch p
    role_latch p x at =
        let here : At raw (latch p) x.lit = (x, at, refl) in
        let e0 : place_of (λ u. u == variable x.lit) (map variable raw.inputs) ≡ None =
        no_input (variable x.lit) (λ j l is same. let k =
        one_place (input j) (latch p) l x.lit tt tt is here same in cc) in
        let e1 : place_of (λ u. u == variable x.lit) order ≡ None =
        no_gate (variable x.lit) (λ q g is same. let k =
        one_place (gate q) (latch p) g.lhs x.lit tt tt (g, is, refl) here same in cc) in
        let e2 : place_of (λ u. u == variable x.lit) (map (λ x. variable x.lit) raw.latches) ≡ Some p =
        only_place (map (λ (x : Latch). variable x.lit) raw.latches) p (variable x.lit)
        (slice_get-map (λ (x : Latch). variable x.lit) raw.latches p
        ∙ ap (option_map (λ (x : Latch). variable x.lit)) at)
        (λ j is. let (y, stands, same) = latch_at j (variable x.lit) is in
        let f = one_place (latch j) (latch p) y.lit x.lit tt tt (y, stands, refl) here same in cc) in
        rw (e0, e1, e2) refl

    -- a gate is looked up by its place in the order
    pub role_gate_at : (q i : ℕ) (g : Gate) → slice_get raw.gates q ≡ Some g
        → place_of (λ u. u == variable g.lhs) order ≡ Some i
        → role raw order (variable g.lhs) ≡ roles.gate i
    role_gate_at q i g at found =
        let here : At raw (gate q) g.lhs = (g, at, refl) in
        let e0 : place_of (λ u. u == variable g.lhs) (map variable raw.inputs) ≡ None =
        no_input (variable g.lhs) (λ j l is same. let k = one_place (input j) (gate q) l g.lhs tt tt is here same in
        cc) in
        rw (e0, found) refl

    -- what is no input, no latch and no gate of the order is constant
    pub role_other : (v : ℕ) → ((p l : ℕ) → slice_get raw.inputs p ≡ Some l → variable l ≡ v → ⊥)
        → ((p : ℕ) (x : Latch) → slice_get raw.latches p ≡ Some x → variable x.lit ≡ v → ⊥)
        → place_of (λ u. u == v) order ≡ None → role raw order v ≡ roles.constant
    role_other v inputs latches absent =
        let e0 = no_input v inputs in
        let e2 = no_latch v latches in
        rw (e0, absent, e2) refl

    pub role_constant : role raw order 0 ≡ roles.constant
    role_constant = role_other 0 (λ p l at. positive (input p) l tt at)
        (λ p x at. positive (latch p) x.lit tt (x, at, refl))
        (no_gate 0 (λ q g at. positive (gate q) g.lhs tt (g, at, refl)))
