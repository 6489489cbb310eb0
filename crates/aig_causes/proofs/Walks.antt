-- A walk goes on: one variable more is visited, and what it leads to is found or queued.
use Rattle.std.proofs.Common.{append-nil, All, map, zero, ◌≡◌, ◌≢◌, ◌⊎◌, inl, inr, ℕ, suc, ◌+◌, ◌*◌, ◌<◌, ◌≤◌, List, []}
use Rattle.std.proofs.Common.{◌∷◌, ◌++◌, length, get_or, Bool, not, cond, count_by, nat_eq, Contains, Some, slice_get}
use Rattle.std.proofs.Common.{slice_set, refl, sym, ap, ◌∙◌, subst, arith}
use Rattle.std.proofs.lemmas.Bool.{cases_eq, eq-eqb, ne_eqb}
use Rattle.std.proofs.lemmas.List.{length-set, length_push, length-append}
use Rattle.std.proofs.lemmas.List.Elements.{Contains-append_cases, Contains-append_left, Contains-append_right}
use Rattle.std.proofs.lemmas.List.Elements.{Contains-push, Contains-push_cases}
use Rattle.std.proofs.lemmas.List.Sums.{sum_by-set}
use Rattle.std.proofs.lemmas.Option.{slice_get_within, slice_get-get_or}
use Rattle.aig_parts.specs.Literal.{variable}
use Rattle.aig_parts.specs.Ternary.{kleene_and}
use Rattle.aig_parts.specs.declared.gate.Gate.{Gate}
use Rattle.aig_parts.specs.declared.raw.Raw.{Raw}
use Rattle.aig_parts.specs.declared.ternary.Tern.{Tern}
use Rattle.aig_parts.specs.declared.ternary.Tern.TheVariants.{Zero, One, X}
use Rattle.aig_base.specs.Circuit.{IsCircuit}
use Rattle.aig_base.specs.Definition.{Defines, IsFree}
use Rattle.aig_base.specs.Sections.{definitions}
use Rattle.aig_base.specs.Sound.{IsSound}
use Rattle.aig_base.specs.declared.circuit.definition.Definition.{Definition}
use Rattle.aig_base.specs.declared.circuit.definition.Definition.TheVariants as definition
use Rattle.aig_base.proofs.circuits.Circuits.{contains_variable, gate_definition, gate_in_range, gate_stands}
use Rattle.aig_base.proofs.circuits.Circuits.{input_definition, input_stands, latch_definition, latch_stands}
use Rattle.aig_base.proofs.circuits.Circuits.{rhs0_in_range, rhs1_in_range}
use Rattle.aig_base.proofs.circuits.Defined.{even}
use Rattle.aig_base.proofs.circuits.Places.{At, Place, gate, input, latch, same_place}
use Rattle.aig_base.proofs.lists.Gets.{All-by_get, slice_get-set_other, slice_get-set_same}
use Rattle.aig_base.proofs.values.UniqueValue.{unique}
use Rattle.aig_values.specs.Cells.{HasVariablesBelow}
use Rattle.aig_values.specs.GateOrder.{IsGateOrder}
use Rattle.aig_causes.specs.declared.sides.Sides.{Sides}
use Rattle.aig_causes.specs.declared.sides.Sides.TheVariants as sides
use Rattle.aig_causes.specs.Causes.{Has, Moment, Sources}
use Rattle.aig_causes.specs.state.Walk.{AreEarlier, Begins, IsSide, queued, GoesOn, HasLed, HaveReached, IsReached}
use Rattle.aig_causes.specs.state.Walk.{IsVisited, IsWalk, Leads, Needs, WalkState, steps_left, with_queued}

needs_more : (P Q : ℕ → Type 0) → ((u : ℕ) → P u → Q u) → (g : Gate) (a b w : Tern) → Needs P g a b w → Needs Q g a b w
needs_more P Q f g a b Zero h = elim h [
  | inl k ↦ inl (k.0, f (variable g.rhs0) k.1)
  | inr k ↦ inr (k.0, f (variable g.rhs1) k.1)
]
needs_more P Q f g a b One h = (f (variable g.rhs0) h.0, f (variable g.rhs1) h.1)
needs_more P Q f g a b X h = (λ e. f (variable g.rhs0) (h.0 e), λ e. f (variable g.rhs1) (h.1 e))

module _ (raw : Raw) (m : Moment) where
  pub reached_more : (P Q : ℕ → Type 0) → ((u : ℕ) → P u → Q u) → (g : Gate) → HaveReached raw m P g → HaveReached raw m Q g
  reached_more P Q f g h = record { needs = λ a b va vb. needs_more P Q f g a b (kleene_and a b) (h.needs a b va vb) }

  led_more : (s s' : WalkState) → ((u : ℕ) → IsReached s u → IsReached s' u)
      → ((p : ℕ) → Contains s.found.inputs p → Contains s'.found.inputs p)
      → ((p : ℕ) → Contains s.found.latches p → Contains s'.found.latches p) → (d : Definition) → HasLed raw m s d
      → HasLed raw m s' d
  led_more s s' f inputs latches (definition.Input p) h = inputs p h
  led_more s s' f inputs latches (definition.Latch p) h = latches p h
  led_more s s' f inputs latches (definition.Gate q) h = λ g at. reached_more (IsReached s) (IsReached s') f g (h g at)

  -- the variable was visited before
  pub again : (s : WalkState) (v : ℕ) → IsVisited s.marks s.number v → GoesOn raw m (with_queued s v) s
  again s v visited = record {
    walk = λ walk. record {
      size = walk.size;
      pending = λ u h. walk.pending u (Contains-append_left s.todo (v ∷ []) u h);
      inputs = walk.inputs;
      latches = walk.latches;
      led = λ u d h by. led_more (with_queued s v) s reached (λ p k. k) (λ p k. k) d (walk.led u d h by);
    };
    reached = reached;
  }
    where
      reached : (u : ℕ) → IsReached (with_queued s v) u → IsReached s u
      reached u (inl h) = inl h
      reached u (inr h) = elim (Contains-push_cases s.todo v u h) [
        | inl k ↦ inr k
        | inr e ↦ inl (subst (IsVisited s.marks s.number) e visited)
      ]

  pub again_fewer : (s : WalkState) (v : ℕ) → steps_left s < steps_left (with_queued s v)
  again_fewer s v = omega (arith, length_push s.todo v)

  -- the variable is visited for the first time
  module _ (s s' : WalkState) (v : ℕ) (within : v < length s.marks) (marks : s'.marks ≡ slice_set s.marks v s.number)
      (number : s'.number ≡ s.number) where
    here : IsVisited s'.marks s'.number v
    here =
        ap (λ (xs : List ℕ). slice_get xs v) marks ∙ slice_get-set_same s.marks v s.number within ∙ ap Some (sym number)

    there : (u : ℕ) → IsVisited s.marks s.number u → IsVisited s'.marks s'.number u
    there u h = elim (cases_eq u v) [
      | inl e ↦ subst (IsVisited s'.marks s'.number) (sym e) here
      | inr other ↦
          ap (λ (xs : List ℕ). slice_get xs u) marks ∙ slice_get-set_other s.marks v u s.number other ∙ h ∙ ap Some (sym number)
    ]

    back : (u : ℕ) → u ≢ v → IsVisited s'.marks s'.number u → IsVisited s.marks s.number u
    back u other h =
        sym (slice_get-set_other s.marks v u s.number other) ∙ ap (λ (xs : List ℕ). slice_get xs u) (sym marks)
        ∙ h ∙ ap Some number

    module _ (mid : WalkState) (todo : mid.todo ≡ s.todo) (found : mid.found ≡ s.found) (leads : Leads raw m v mid s') where
      reached : (u : ℕ) → IsReached (with_queued s v) u → IsReached s' u
      reached u (inl h) = inl (there u h)
      reached u (inr h) = elim (Contains-push_cases s.todo v u h) [
        | inl k ↦
            inr (subst (λ (xs : List ℕ). Contains xs u) (sym (leads.todo ∙ ap (λ (xs : List ℕ). xs ++ leads.queued) todo))
            (Contains-append_left s.todo leads.queued u k))
        | inr e ↦ inl (subst (IsVisited s'.marks s'.number) e here)
      ]

      size : length s'.marks ≡ length s.marks
      size = ap length marks ∙ length-set s.marks v s.number

      pub first : GoesOn raw m (with_queued s v) s'
      first = record {
        walk = λ walk.
            let inputs : (p : ℕ) → Contains s.found.inputs p → Contains s'.found.inputs p =
            λ p k. leads.inputs_kept p (rw found k) in
            let latches : (p : ℕ) → Contains s.found.latches p → Contains s'.found.latches p =
            λ p k. leads.latches_kept p (rw found k) in
            record {
              size = size ∙ walk.size;
              pending = λ u h.
                  elim (Contains-append_cases s.todo leads.queued u
                  (subst (λ (xs : List ℕ). Contains xs u) (leads.todo ∙ ap (λ (xs : List ℕ). xs ++ leads.queued) todo) h)) [
                    | inl k ↦ omega (arith, walk.pending u (Contains-append_left s.todo (v ∷ []) u k), size)
                    | inr k ↦ omega (arith, leads.below u k, size, walk.size)
                  ];
              inputs = λ p h. elim (leads.inputs p h) [ inl k ↦ walk.inputs p (rw (← found) k) | inr lt ↦ lt ];
              latches = λ p h. elim (leads.latches p h) [ inl k ↦ walk.latches p (rw (← found) k) | inr lt ↦ lt ];
              led = λ u d h by. elim (cases_eq u v) [
                | inl e ↦ leads.led d (subst (λ (k : ℕ). Defines raw k d) e by)
                | inr other ↦
                    led_more (with_queued s v) s' reached inputs latches d (walk.led u d (back u other h) by)
              ];
            };
        reached = reached;
      }

      pub first_fewer : (IsVisited s.marks s.number v → ⊥) → steps_left s' < steps_left (with_queued s v)
      first_fewer new =
          let weight = λ (n : ℕ). let k : ℕ = cond (not (nat_eq n s.number)) 1 0 in k in
          let sums = sum_by-set weight s.marks v s.number 0 within in
          let none : weight s.number ≡ 0 = ap (λ (b : Bool). cond (not b) 1 0) (eq-eqb s.number s.number refl) in
          let one : weight (get_or s.marks v 0) ≡ 1 =
          ap (λ (b : Bool). cond (not b) 1 0)
          (ne_eqb (get_or s.marks v 0) s.number (λ e. new (slice_get-get_or s.marks v 0 within ∙ ap Some e))) in
          let same : count_by (λ n. not (nat_eq n s'.number)) s'.marks
          ≡ count_by (λ n. not (nat_eq n s.number)) (slice_set s.marks v s.number) =
          ap (λ (k : ℕ). count_by (λ n. not (nat_eq n k)) s'.marks) number
          ∙ ap (λ (xs : List ℕ). count_by (λ n. not (nat_eq n s.number)) xs) marks in
          let queue : length s'.todo ≡ length s.todo + length leads.queued =
          ap length (leads.todo ∙ ap (λ (xs : List ℕ). xs ++ leads.queued) todo) ∙ length-append s.todo leads.queued in
          let few = leads.few in
          omega (arith, same, sums, none, one, queue, few, length_push s.todo v)

-- ---- what a variable leads to

abbrev place : Definition → Place
place (definition.Input p) = input p
place (definition.Latch p) = latch p
place (definition.Gate q) = gate q

same_definition : (d e : Definition) → place d ≡ place e → d ≡ e
same_definition (definition.Input p) (definition.Input q) h = let is : p ≡ q = cc in ap definition.Input is
same_definition (definition.Input p) (definition.Latch q) h = let no : ⊥ = cc in absurd no
same_definition (definition.Input p) (definition.Gate q) h = let no : ⊥ = cc in absurd no
same_definition (definition.Latch p) (definition.Input q) h = let no : ⊥ = cc in absurd no
same_definition (definition.Latch p) (definition.Latch q) h = let is : p ≡ q = cc in ap definition.Latch is
same_definition (definition.Latch p) (definition.Gate q) h = let no : ⊥ = cc in absurd no
same_definition (definition.Gate p) (definition.Input q) h = let no : ⊥ = cc in absurd no
same_definition (definition.Gate p) (definition.Latch q) h = let no : ⊥ = cc in absurd no
same_definition (definition.Gate p) (definition.Gate q) h = let is : p ≡ q = cc in ap definition.Gate is

side_queued : (g : Gate) (some : Sides) (u : ℕ) → IsSide g some u → Contains (queued (variable g.rhs0) (variable g.rhs1) some) u
side_queued g sides.First u e = (0, omega arith, sym e)
side_queued g sides.Second u e = (0, omega arith, sym e)
side_queued g sides.Both u (inl e) = (1, omega arith, sym e)
side_queued g sides.Both u (inr e) = (0, omega arith, sym e)

queued_side : (g : Gate) (some : Sides) (u : ℕ) → Contains (queued (variable g.rhs0) (variable g.rhs1) some) u
    → (u ≡ variable g.rhs0) ⊎ (u ≡ variable g.rhs1)
queued_side g sides.First u (zero, lt, is) = inl (sym is)
queued_side g sides.First u (suc k, lt, is) = absurd (omega (arith, lt))
queued_side g sides.Second u (zero, lt, is) = inr (sym is)
queued_side g sides.Second u (suc k, lt, is) = absurd (omega (arith, lt))
queued_side g sides.Both u (zero, lt, is) = inr (sym is)
queued_side g sides.Both u (suc zero, lt, is) = inl (sym is)
queued_side g sides.Both u (suc (suc k), lt, is) = absurd (omega (arith, lt))

two_queued : (g : Gate) (some : Sides) → length (queued (variable g.rhs0) (variable g.rhs1) some) ≤ 2
two_queued g sides.First = omega arith
two_queued g sides.Second = omega arith
two_queued g sides.Both = omega arith

module _ (raw : Raw) (sound : IsSound raw) where
  defined_at : (v : ℕ) (d : Definition) → Defines raw v d → At raw (place d) (2 * v)
  defined_at v (definition.Input p) (l, at, is) =
      let same : l ≡ 2 * v = sym (even l (input_definition raw sound p l at)) ∙ ap (λ (k : ℕ). 2 * k) is in
      at ∙ ap Some same
  defined_at v (definition.Latch p) (x, at, is) =
      (x, at, sym (even x.lit (latch_definition raw sound p x at)) ∙ ap (λ (k : ℕ). 2 * k) is)
  defined_at v (definition.Gate q) (g, at, is) =
      (g, at, sym (even g.lhs (gate_definition raw sound q g at)) ∙ ap (λ (k : ℕ). 2 * k) is)

  one_definition : (v : ℕ) (d e : Definition) → Defines raw v d → Defines raw v e → d ≡ e
  one_definition v d e h k =
      same_definition d e (same_place raw sound (place d) (place e) (2 * v) (defined_at v d h) (defined_at v e k))

  -- sides that were chosen by their values
  pub reached_sides : (m : Moment) (R : ℕ → Type 0) (g : Gate) (a b : Tern) → Has raw m g.rhs0 a → Has raw m g.rhs1 b
      → Needs R g a b (kleene_and a b) → HaveReached raw m R g
  reached_sides m R g a b va vb h = record {
    needs = λ c d vc vd.
        let same0 : a ≡ c = unique raw m.start m.rows sound va vc in
        let same1 : b ≡ d = unique raw m.start m.rows sound vb vd in
        subst (λ (z : Tern). Needs R g z d (kleene_and z d)) same0
        (subst (λ (z : Tern). Needs R g a z (kleene_and a z)) same1 h);
  }

  module _ (m : Moment) (s : WalkState) (v : ℕ) where
    free_defines : IsFree raw v → (d : Definition) → Defines raw v d → ⊥
    free_defines free (definition.Input p) (l, at, is) =
        free (subst (λ (k : ℕ). Contains (map variable (definitions raw)) k) is
        (contains_variable (definitions raw) l (input_stands raw p l at)))
    free_defines free (definition.Latch p) (x, at, is) =
        free (subst (λ (k : ℕ). Contains (map variable (definitions raw)) k) is
        (contains_variable (definitions raw) x.lit (latch_stands raw p x at)))
    free_defines free (definition.Gate q) (g, at, is) =
        free (subst (λ (k : ℕ). Contains (map variable (definitions raw)) k) is
        (contains_variable (definitions raw) g.lhs (gate_stands raw q g at)))

    nothing : s.todo ≡ s.todo ++ []
    nothing = sym (append-nil s.todo)

    pub leads_nowhere : IsFree raw v → Leads raw m v s s
    leads_nowhere free = record {
      queued = [];
      todo = nothing;
      few = omega arith;
      below = λ u h. absurd (omega (arith, h.1));
      inputs_kept = λ p h. h;
      latches_kept = λ p h. h;
      inputs = λ p h. inl h;
      latches = λ p h. inl h;
      led = λ d h. absurd (free_defines free d h);
    }

    pub leads_to_input : (p : ℕ) (found : Sources) → Defines raw v (definition.Input p)
        → found ≡ record { inputs = s.found.inputs ++ p ∷ []; latches = s.found.latches }
        → Leads raw m v s (record s { found = found })
    leads_to_input p found by is =
        let inputs : found.inputs ≡ s.found.inputs ++ p ∷ [] = ap (λ (z : Sources). z.inputs) is in
        let latches : found.latches ≡ s.found.latches = ap (λ (z : Sources). z.latches) is in
        let below : p < length raw.inputs = slice_get_within raw.inputs p by.0 by.1 in
        record {
          queued = [];
          todo = nothing;
          few = omega arith;
          below = λ u h. absurd (omega (arith, h.1));
          inputs_kept = λ q h.
              subst (λ (xs : List ℕ). Contains xs q) (sym inputs) (Contains-append_left s.found.inputs (p ∷ []) q h);
          latches_kept = λ q h. subst (λ (xs : List ℕ). Contains xs q) (sym latches) h;
          inputs = λ q h.
              elim (Contains-push_cases s.found.inputs p q (subst (λ (xs : List ℕ). Contains xs q) inputs h)) [
                | inl k ↦ inl k
                | inr e ↦ inr (subst (λ (k : ℕ). k < length raw.inputs) e below)
              ];
          latches = λ q h. inl (subst (λ (xs : List ℕ). Contains xs q) latches h);
          led = λ d h.
              subst (HasLed raw m (record s { found = found })) (one_definition v (definition.Input p) d by h)
              (subst (λ (xs : List ℕ). Contains xs p) (sym inputs) (Contains-push s.found.inputs p));
        }

    pub leads_to_latch : (p : ℕ) (found : Sources) → Defines raw v (definition.Latch p)
        → found ≡ record { inputs = s.found.inputs; latches = s.found.latches ++ p ∷ [] }
        → Leads raw m v s (record s { found = found })
    leads_to_latch p found by is =
        let inputs : found.inputs ≡ s.found.inputs = ap (λ (z : Sources). z.inputs) is in
        let latches : found.latches ≡ s.found.latches ++ p ∷ [] = ap (λ (z : Sources). z.latches) is in
        let below : p < length raw.latches = slice_get_within raw.latches p by.0 by.1 in
        record {
          queued = [];
          todo = nothing;
          few = omega arith;
          below = λ u h. absurd (omega (arith, h.1));
          inputs_kept = λ q h. subst (λ (xs : List ℕ). Contains xs q) (sym inputs) h;
          latches_kept = λ q h.
              subst (λ (xs : List ℕ). Contains xs q) (sym latches) (Contains-append_left s.found.latches (p ∷ []) q h);
          inputs = λ q h. inl (subst (λ (xs : List ℕ). Contains xs q) inputs h);
          latches = λ q h.
              elim (Contains-push_cases s.found.latches p q (subst (λ (xs : List ℕ). Contains xs q) latches h)) [
                | inl k ↦ inl k
                | inr e ↦ inr (subst (λ (k : ℕ). k < length raw.latches) e below)
              ];
          led = λ d h.
              subst (HasLed raw m (record s { found = found })) (one_definition v (definition.Latch p) d by h)
              (subst (λ (xs : List ℕ). Contains xs p) (sym latches) (Contains-push s.found.latches p));
        }

    pub leads_to_gate : (q : ℕ) (g : Gate) (some : Sides) (todo : List ℕ) → Defines raw v (definition.Gate q)
        → slice_get raw.gates q ≡ Some g → HaveReached raw m (IsSide g some) g → todo ≡ s.todo ++ queued (variable g.rhs0) (variable g.rhs1) some
        → Leads raw m v s (record s { todo = todo })
    leads_to_gate q g some todo by at reached is =
        let s' : WalkState = record s { todo = todo } in
        record {
          queued = queued (variable g.rhs0) (variable g.rhs1) some;
          todo = is;
          few = two_queued g some;
          below = λ u h. elim (queued_side g some u h) [
            | inl e ↦ let fits = rhs0_in_range raw sound q g at in omega (arith, e, fits)
            | inr e ↦ let fits = rhs1_in_range raw sound q g at in omega (arith, e, fits)
          ];
          inputs_kept = λ p h. h;
          latches_kept = λ p h. h;
          inputs = λ p h. inl h;
          latches = λ p h. inl h;
          led = λ d h.
              subst (HasLed raw m s') (one_definition v (definition.Gate q) d by h)
              (λ k here.
              let one : g ≡ k = cc in
              subst (λ (z : Gate). HaveReached raw m (IsReached s') z) one
              (reached_more raw m (IsSide g some) (IsReached s')
              (λ u side. inr (subst (λ (xs : List ℕ). Contains xs u) (sym is)
              (Contains-append_right s.todo (queued (variable g.rhs0) (variable g.rhs1) some) u (side_queued g some u side)))) g reached));
        }

-- the gates of an order have variables of the circuit
pub order_below : (raw : Raw) → IsCircuit raw → (gates : List Gate) → IsGateOrder raw gates
    → All (HasVariablesBelow (raw.max_var + 1)) gates
order_below raw circuit gates order =
    All-by_get (HasVariablesBelow (raw.max_var + 1)) gates (λ q g at.
    let (r, here) = order.known q g at in
    let lhs = gate_in_range raw circuit.sound r g here in
    let rhs0 = rhs0_in_range raw circuit.sound r g here in
    let rhs1 = rhs1_in_range raw circuit.sound r g here in
    record { lhs = omega (arith, lhs); rhs0 = omega (arith, rhs0); rhs1 = omega (arith, rhs1) })

pub gates_below : (raw : Raw) → IsCircuit raw → All (HasVariablesBelow (raw.max_var + 1)) raw.gates
gates_below raw circuit =
    All-by_get (HasVariablesBelow (raw.max_var + 1)) raw.gates (λ r g here.
    let lhs = gate_in_range raw circuit.sound r g here in
    let rhs0 = rhs0_in_range raw circuit.sound r g here in
    let rhs1 = rhs1_in_range raw circuit.sound r g here in
    record { lhs = omega (arith, lhs); rhs0 = omega (arith, rhs0); rhs1 = omega (arith, rhs1) })

-- a mark of this walk is not later
pub earlier_more : (number v : ℕ) (marks : List ℕ) → AreEarlier number marks → AreEarlier number (slice_set marks v number)
earlier_more number v marks h u n at = elim (cases_eq u v) [
  | inl e ↦
      let lt = slice_get_within (slice_set marks v number) u n at in
      let within : v < length marks = omega (arith, lt, length-set marks v number, e) in
      let here : slice_get (slice_set marks v number) u ≡ Some number =
      ap (slice_get (slice_set marks v number)) e ∙ slice_get-set_same marks v number within in
      let is : n ≡ number = cc in omega (arith, is)
  | inr other ↦ h u n (sym (slice_get-set_other marks v u number other) ∙ at)
]

-- a walk that begins
pub begun : (raw : Raw) (m : Moment) (s : WalkState) (literals : List ℕ) → length s.marks ≡ raw.max_var + 1
    → ((l : ℕ) → Contains literals l → variable l ≤ raw.max_var) → Begins literals s → IsWalk raw m s
begun raw m s literals size within h = record {
  size = size;
  pending = λ v k. let (l, is, same) = h.only v k in omega (arith, within l is, same, size);
  inputs = λ p k.
      let none : Contains [] p = subst (λ (z : Sources). Contains z.inputs p) h.found k in absurd (omega (arith, none.1));
  latches = λ p k.
      let none : Contains [] p = subst (λ (z : Sources). Contains z.latches p) h.found k in absurd (omega (arith, none.1));
  led = λ v d visited by. absurd (h.none v visited);
}
