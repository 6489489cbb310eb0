-- The walk back over right sides, and what it says of a change of a gate.
use Rattle.std.proofs.Common.{◌≡◌, ◌≢◌, ◌⊎◌, inl, inr, ℕ, zero, suc, ◌+◌, ◌<◌, List, [], ◌∷◌, ◌++◌, length, map, get_or}
use Rattle.std.proofs.Common.{set, Bool, true, false, not, cond, slice_get, Some, option_map, Contains}
use Rattle.std.proofs.Common.{count_by, refl, sym, ◌∙◌, ap, subst, arith, get_or-set_other, get_or-set_same, length-set}
use Rattle.std.proofs.Common.{replicate}
use Rattle.std.proofs.lemmas.Bool.{cases_eq, cases_Bool, eq-eqb, ne_eqb, false≢true}
use Rattle.std.proofs.lemmas.List.{set-get_or, length_push, length-replicate, get_or-replicate}
use Rattle.std.proofs.lemmas.List.Elements.{Contains-append_left, Contains-push, Contains-push_cases}
use Rattle.std.proofs.lemmas.List.Sums.{sum_by-set}
use Rattle.std.proofs.lemmas.Option.{slice_get-map}
use Rattle.aig_parts.specs.declared.gate.Gate.{Gate}
use Rattle.aig_parts.specs.declared.raw.Raw.{Raw}
use Rattle.aig_base.specs.Changes.{rewired, with_gate}
use Rattle.aig_base.specs.Circuit.{IsCircuit}
use Rattle.aig_base.specs.Grounded.{Grounded, IsSource, IsAcyclic}
use Rattle.aig_base.specs.Grounded as by
use Rattle.aig_parts.specs.Literal.{variable}
use Rattle.aig_base.specs.Sections.{IsDefined, IsGate, IsLeftSide}
use Rattle.aig_base.specs.Sound.{IsSound}
use Rattle.aig_base.specs.state.Walk.{Meets}
use Rattle.aig_base.proofs.circuits.Defined.{Grounded-of_defined}
use Rattle.aig_base.proofs.circuits.Gates.{defined_in_range, sides_in_range, IsGate-of_gate, gate_of, same_gate}
use Rattle.aig_base.proofs.circuits.Gates.{source-gate}
use Rattle.aig_base.proofs.lists.Positions.{unmap, unmap_option, no_element}

-- what the walk from the variables a and b back over right sides meets, where it does not go on from t
pub data Reached (raw : Raw) (t a b : ℕ) : ℕ → Type 0 where
  first : Reached raw t a b a
  second : Reached raw t a b b
  left : (q : ℕ) (g : Gate) → slice_get raw.gates q ≡ Some g → variable g.lhs ≢ t
      → Reached raw t a b (variable g.lhs) → Reached raw t a b (variable g.rhs0)
  right : (q : ℕ) (g : Gate) → slice_get raw.gates q ≡ Some g → variable g.lhs ≢ t
      → Reached raw t a b (variable g.lhs) → Reached raw t a b (variable g.rhs1)

-- a way back over right sides to t
pub data Path (raw : Raw) (t : ℕ) : ℕ → Type 0 where
  stop : Path raw t t
  left : (q : ℕ) (g : Gate) → slice_get raw.gates q ≡ Some g → variable g.lhs ≢ t
      → Path raw t (variable g.rhs0) → Path raw t (variable g.lhs)
  right : (q : ℕ) (g : Gate) → slice_get raw.gates q ≡ Some g → variable g.lhs ≢ t
      → Path raw t (variable g.rhs1) → Path raw t (variable g.lhs)

-- what is reached has a way to t only if a start has
path_back : {raw : Raw} {t a b v : ℕ} → Reached raw t a b v → Path raw t v → Path raw t a ⊎ Path raw t b
path_back Reached.first p = inl p
path_back Reached.second p = inr p
path_back (Reached.left q g at ne r) p = path_back r (Path.left q g at ne p)
path_back (Reached.right q g at ne r) p = path_back r (Path.right q g at ne p)

-- what a way is
pub Begins : Raw → ℕ → ℕ → Type 0
Begins raw t v =
    (v ≡ t)
    ⊎ ((q : ℕ) × (g : Gate) × (slice_get raw.gates q ≡ Some g) × (variable g.lhs ≢ t) × (variable g.lhs ≡ v)
    × (Path raw t (variable g.rhs0) ⊎ Path raw t (variable g.rhs1)))

pub begins : {raw : Raw} {t v : ℕ} → Path raw t v → Begins raw t v
unfolding Begins
begins Path.stop = inl refl
begins (Path.left q g at ne p) = inr (q, g, at, ne, refl, inl p)
begins (Path.right q g at ne p) = inr (q, g, at, ne, refl, inr p)

pub rewired_other : (lhs r0 r1 : ℕ) (g : Gate) → g.lhs ≢ lhs → rewired lhs r0 r1 g ≡ g
rewired_other lhs r0 r1 g ne = rw (ne_eqb g.lhs lhs ne) refl

pub rewired_same : (lhs r0 r1 : ℕ) (g : Gate) → g.lhs ≡ lhs
    → rewired lhs r0 r1 g ≡ record { lhs = g.lhs; rhs0 = r0; rhs1 = r1 }
rewired_same lhs r0 r1 g e = rw (eq-eqb g.lhs lhs e) refl

module _ (raw : Raw) (sound : IsSound raw) (lhs r0 r1 : ℕ) (is_gate : IsLeftSide raw lhs) where
  -- the gate of the literal
  pub the_gate : (g : Gate) × (q : ℕ) × (slice_get raw.gates q ≡ Some g) × (g.lhs ≡ lhs)
  the_gate = unmap (λ (g : Gate). g.lhs) raw.gates lhs is_gate

  pub source_new : (v : ℕ) → IsSource raw v → IsSource (with_gate raw lhs r0 r1) v
  source_new v by.IsSource.constant = by.IsSource.constant
  source_new v (by.IsSource.input p l at) = by.IsSource.input p l at
  source_new v (by.IsSource.latch p x at) = by.IsSource.latch p x at

  pub source_old : (v : ℕ) → IsSource (with_gate raw lhs r0 r1) v → IsSource raw v
  source_old v by.IsSource.constant = by.IsSource.constant
  source_old v (by.IsSource.input p l at) = by.IsSource.input p l at
  source_old v (by.IsSource.latch p x at) = by.IsSource.latch p x at

  -- the gate at a position, after the change
  pub gate_new : (q : ℕ) (g : Gate) → slice_get raw.gates q ≡ Some g
      → slice_get (map (rewired lhs r0 r1) raw.gates) q ≡ Some (rewired lhs r0 r1 g)
  gate_new q g at = slice_get-map (rewired lhs r0 r1) raw.gates q ∙ ap (option_map (rewired lhs r0 r1)) at

  pub gate_old : (q : ℕ) (g : Gate) → slice_get (map (rewired lhs r0 r1) raw.gates) q ≡ Some g
      → (h : Gate) × (slice_get raw.gates q ≡ Some h) × (rewired lhs r0 r1 h ≡ g)
  gate_old q g at = unmap_option (rewired lhs r0 r1) (slice_get raw.gates q) g
      (sym (slice_get-map (rewired lhs r0 r1) raw.gates q) ∙ at)

  pub kept : (q : ℕ) (g : Gate) → slice_get raw.gates q ≡ Some g → variable g.lhs ≢ variable lhs
      → slice_get (map (rewired lhs r0 r1) raw.gates) q ≡ Some g
  kept q g at ne = gate_new q g at ∙ ap Some (rewired_other lhs r0 r1 g (λ e. ne (ap variable e)))

  -- a gate with the variable is the one of the literal
  pub same_left : (q : ℕ) (g : Gate) → slice_get raw.gates q ≡ Some g → variable g.lhs ≡ variable lhs → g.lhs ≡ lhs
  same_left q g at e =
      let (h, r, found, is) = the_gate in
      let one : g ≡ h = same_gate raw sound q r g h at found (e ∙ ap variable (sym is)) in
      ap (λ (k : Gate). k.lhs) one ∙ is

  -- with a way from a new right side to the gate itself, nothing that has a way to it is grounded
  pub no_path : {v : ℕ} → Path raw (variable lhs) (variable r0) ⊎ Path raw (variable lhs) (variable r1)
      → Grounded (with_gate raw lhs r0 r1) v → Path raw (variable lhs) v → ⊥
  unfolding Begins
  no_path {v} ends (by.Grounded.source u s) p = elim (begins p) [
    | inl e ↦ (let (g, q, at, is) = the_gate in
        source-gate raw sound v q g at (source_old v s) (e ∙ ap variable (sym is)))
    | inr w ↦ source-gate raw sound v w.0 w.1 w.2 (source_old v s) (sym w.4)
  ]
  no_path {v} ends (by.Grounded.gate q g at g0 g1) p =
      let (h, found, is) = gate_old q g at in
      elim (begins p) [
        | inl e ↦
            (let same : h.lhs ≡ lhs = same_left q h found (ap (λ (k : Gate). variable k.lhs) is ∙ e) in
            let new : record { lhs = h.lhs; rhs0 = r0; rhs1 = r1 } ≡ g = sym (rewired_same lhs r0 r1 h same) ∙ is in
            elim ends [
              | inl k ↦ no_path (inl k) g0 (subst (λ (k : Gate). Path raw (variable lhs) (variable k.rhs0)) new k)
              | inr k ↦ no_path (inr k) g1 (subst (λ (k : Gate). Path raw (variable lhs) (variable k.rhs1)) new k)
            ])
        | inr w ↦
            (let one : w.1 ≡ h =
            same_gate raw sound w.0 q w.1 h w.2 found (w.4 ∙ ap (λ (k : Gate). variable k.lhs) (sym is)) in
            let other : h.lhs ≢ lhs = (λ e. w.3 (ap (λ (k : Gate). variable k.lhs) one ∙ ap variable e)) in
            let same : w.1 ≡ g = one ∙ sym (rewired_other lhs r0 r1 h other) ∙ is in
            elim w.5 [
              | inl k ↦ no_path ends g0 (subst (λ (k : Gate). Path raw (variable lhs) (variable k.rhs0)) same k)
              | inr k ↦ no_path ends g1 (subst (λ (k : Gate). Path raw (variable lhs) (variable k.rhs1)) same k)
            ])
      ]

  -- the gate read back from its own new right sides
  pub cycle_from_reached : Reached raw (variable lhs) (variable r0) (variable r1) (variable lhs)
      → IsAcyclic (with_gate raw lhs r0 r1) → ⊥
  cycle_from_reached r acyclic =
      let (g, q, at, is) = the_gate in
      let left : (rewired lhs r0 r1 g).lhs ≡ lhs = is in
      let gate : IsGate (with_gate raw lhs r0 r1) (variable lhs) =
      subst (λ l. IsGate (with_gate raw lhs r0 r1) (variable l)) left
      (IsGate-of_gate (with_gate raw lhs r0 r1) q (rewired lhs r0 r1 g) (gate_new q g at)) in
      no_path (path_back r Path.stop) (acyclic (variable lhs) gate) Path.stop

-- a variable that was met is not t, and both right sides of its gate were met
pub record IsClosed (raw : Raw) (t : ℕ) (met : List Bool) (v : ℕ) : Type 0 where
  pub other : v ≢ t
  pub sides : (q : ℕ) (g : Gate) → slice_get raw.gates q ≡ Some g → variable g.lhs ≡ v
      → (get_or met (variable g.rhs0) false ≡ true) × (get_or met (variable g.rhs1) false ≡ true)

-- each variable that was met is reached, and is pending, owed or closed
pub record IsWalk (raw : Raw) (t a b : ℕ) (pending owed : List ℕ) (met : List Bool) : Type 0 where
  pub size : length met ≡ raw.max_var + 1
  pub reached : (v : ℕ) → get_or met v false ≡ true → Reached raw t a b v
  pub pending_met : (v : ℕ) → Contains pending v → get_or met v false ≡ true
  pub owed_met : (v : ℕ) → Contains owed v → get_or met v false ≡ true
  pub each : (v : ℕ) → get_or met v false ≡ true → Contains pending v ⊎ (Contains owed v ⊎ IsClosed raw t met v)

pub only_element : (u v : ℕ) → Contains (u ∷ []) v → u ≡ v
only_element u v (zero, lt, is) = is
only_element u v (suc k, lt, is) = absurd (omega arith)

-- a mark more
pub stays_met : (met : List Bool) (x v : ℕ) → x < length met → get_or met v false ≡ true
    → get_or (set met x true) v false ≡ true
stays_met met x v lt h = elim (cases_eq v x) [
  | inl e ↦ rw e (get_or-set_same met x true false lt)
  | inr ne ↦ get_or-set_other met x v true false ne ∙ h
]

pub was_met : (met : List Bool) (x v : ℕ) → get_or (set met x true) v false ≡ true → (v ≡ x)
    ⊎ (get_or met v false ≡ true)
was_met met x v h = elim (cases_eq v x) [
  | inl e ↦ inl e
  | inr ne ↦ inr (sym (get_or-set_other met x v true false ne) ∙ h)
]

pub met_within : (met : List Bool) (x : ℕ) → get_or met x false ≡ true → x < length met
met_within [] x h = absurd (false≢true h)
met_within (b ∷ met) zero h = omega arith
met_within (b ∷ met) (suc x) h = let w = met_within met x h in omega arith

module _ (raw : Raw) (t a b : ℕ) where
  stays_closed : (met : List Bool) (x v : ℕ) → x < length met → IsClosed raw t met v → IsClosed raw t (set met x true) v
  stays_closed met x v lt c = record {
    other = c.other;
    sides = λ q g at e. let (m0, m1) = c.sides q g at e in
        (stays_met met x (variable g.rhs0) lt m0, stays_met met x (variable g.rhs1) lt m1);
  }

  pub walk_none : (met : List Bool) (pending : List ℕ) → met ≡ replicate (raw.max_var + 1) false → pending ≡ []
      → IsWalk raw t a b pending [] met
  walk_none met pending is e = record {
    size = ap length is ∙ length-replicate (raw.max_var + 1) false;
    reached = λ v h. absurd (unmet v h);
    pending_met = λ v h. absurd (no_element v (rw e at h));
    owed_met = λ v h. absurd (no_element v h);
    each = λ v h. absurd (unmet v h);
  }
    where
      unmet : (v : ℕ) → get_or met v false ≡ true → ⊥
      unmet v h =
          let lt = met_within met v h in
          let size : length met ≡ raw.max_var + 1 = ap length is ∙ length-replicate (raw.max_var + 1) false in
          false≢true (sym (get_or-replicate (raw.max_var + 1) v false false (omega arith))
          ∙ sym (ap (λ xs. get_or xs v false) is) ∙ h)

  walk_again : (x : ℕ) (pending owed : List ℕ) (met : List Bool) → get_or met x false ≡ true
      → IsWalk raw t a b pending owed met
      → IsWalk raw t a b pending owed (set met x true)
  walk_again x pending owed met h w =
      let e : set met x true ≡ met = ap (set met x) (sym h) ∙ set-get_or met x false in
      rw e w

  walk_new : (x : ℕ) (pending owed : List ℕ) (met : List Bool) → x < length met → Reached raw t a b x
      → IsWalk raw t a b pending owed met
      → IsWalk raw t a b (pending ++ x ∷ []) owed (set met x true)
  walk_new x pending owed met lt r w = record {
    size = length-set met x true ∙ w.size;
    reached = λ v h. elim (was_met met x v h) [ inl e ↦ rw e r | inr k ↦ w.reached v k ];
    pending_met = λ v h. elim (Contains-push_cases pending x v h) [
      | inl k ↦ stays_met met x v lt (w.pending_met v k)
      | inr e ↦ rw (← e) (get_or-set_same met x true false lt)
    ];
    owed_met = λ v h. stays_met met x v lt (w.owed_met v h);
    each = λ v h. elim (was_met met x v h) [
      | inl e ↦ inl (rw e (Contains-push pending x))
      | inr k ↦ elim (w.each v k) [
        | inl p ↦ inl (Contains-append_left pending (x ∷ []) v p)
        | inr o ↦ elim o [
          | inl p ↦ inr (inl p)
          | inr c ↦ inr (inr (stays_closed met x v lt c))
        ]
      ]
    ];
  }

  -- a variable is met
  pub walk_meet : (x : ℕ) (pending pending' owed : List ℕ) (met met' : List Bool) → x < length met → Reached raw t a b x
      → Meets x met met' pending pending' → IsWalk raw t a b pending owed met → IsWalk raw t a b pending' owed met'
  walk_meet x pending pending' owed met met' lt r m w = elim (cases_Bool (get_or met x false)) [
    | inl e ↦
        (let same : pending' ≡ pending = rw e at m.added in
        rw (m.marked, same) (walk_again x pending owed met e w))
    | inr e ↦
        (let same : pending' ≡ pending ++ x ∷ [] = rw e at m.added in
        rw (m.marked, same) (walk_new x pending owed met lt r w))
  ]

  -- the last pending variable is taken
  pub walk_pop : (u : ℕ) (pending rest : List ℕ) (met : List Bool) → pending ≡ rest ++ u ∷ []
      → IsWalk raw t a b pending [] met
      → IsWalk raw t a b rest (u ∷ []) met
  walk_pop u pending rest met e w = record {
    size = w.size;
    reached = w.reached;
    pending_met = λ v h. w.pending_met v (rw e (Contains-append_left rest (u ∷ []) v h));
    owed_met = λ v h. w.pending_met v (rw (e, ← only_element u v h) (Contains-push rest u));
    each = λ v h. elim (w.each v h) [
      | inl p ↦ elim (Contains-push_cases rest u v (rw e at p)) [
        | inl k ↦ inl k
        | inr k ↦ inr (inl (rw (← k) (Contains-push [] u)))
      ]
      | inr o ↦ elim o [
        | inl p ↦ absurd (no_element v p)
        | inr c ↦ inr (inr c)
      ]
    ];
  }

  -- it is closed
  walk_close : (u : ℕ) (pending : List ℕ) (met : List Bool) → IsClosed raw t met u
      → IsWalk raw t a b pending (u ∷ []) met
      → IsWalk raw t a b pending [] met
  walk_close u pending met c w = record {
    size = w.size;
    reached = w.reached;
    pending_met = w.pending_met;
    owed_met = λ v h. absurd (no_element v h);
    each = λ v h. elim (w.each v h) [
      | inl p ↦ inl p
      | inr o ↦ elim o [
        | inl p ↦ inr (inr (rw (← only_element u v p) c))
        | inr k ↦ inr (inr k)
      ]
    ];
  }

  pub walk_pass : (u : ℕ) (pending : List ℕ) (met : List Bool) → u ≢ t → (IsGate raw u → ⊥)
      → IsWalk raw t a b pending (u ∷ []) met
      → IsWalk raw t a b pending [] met
  walk_pass u pending met ne other w = walk_close u pending met (record {
    other = ne;
    sides = λ q g at e. absurd (other (subst (IsGate raw) e (IsGate-of_gate raw q g at)));
  }) w

module _ (raw : Raw) (sound : IsSound raw) (acyclic : IsAcyclic raw) (lhs r0 r1 : ℕ) (is_gate : IsLeftSide raw lhs)
    (d0 : IsDefined raw (variable r0)) (d1 : IsDefined raw (variable r1)) (met : List Bool)
    (first : get_or met (variable r0) false ≡ true)
    (second : get_or met (variable r1) false ≡ true)
    (closed : (v : ℕ) → get_or met v false ≡ true → IsClosed raw (variable lhs) met v) where
  -- what was met stays grounded
  met_grounded : {v : ℕ} → Grounded raw v → get_or met v false ≡ true → Grounded (with_gate raw lhs r0 r1) v
  met_grounded (by.Grounded.source v s) m = by.Grounded.source v (source_new raw sound lhs r0 r1 is_gate v s)
  met_grounded (by.Grounded.gate q g at g0 g1) m =
      let here = closed (variable g.lhs) m in
      let (m0, m1) = here.sides q g at refl in
      by.Grounded.gate q g (kept raw sound lhs r0 r1 is_gate q g at here.other) (met_grounded g0 m0)
      (met_grounded g1 m1)

  changed_grounded : Grounded (with_gate raw lhs r0 r1) (variable lhs)
  changed_grounded =
      let (g, q, at, is) = the_gate raw sound lhs r0 r1 is_gate in
      let here : slice_get (map (rewired lhs r0 r1) raw.gates) q ≡ Some (record { lhs = g.lhs; rhs0 = r0; rhs1 = r1 }) =
      gate_new raw sound lhs r0 r1 is_gate q g at ∙ ap Some (rewired_same lhs r0 r1 g is) in
      let side0 = met_grounded (Grounded-of_defined raw acyclic (variable r0) d0) first in
      let side1 = met_grounded (Grounded-of_defined raw acyclic (variable r1) d1) second in
      subst (λ l. Grounded (with_gate raw lhs r0 r1) (variable l)) is
      (by.Grounded.gate q (record { lhs = g.lhs; rhs0 = r0; rhs1 = r1 }) here side0 side1)

  all_grounded : {v : ℕ} → Grounded raw v → Grounded (with_gate raw lhs r0 r1) v
  all_grounded (by.Grounded.source v s) = by.Grounded.source v (source_new raw sound lhs r0 r1 is_gate v s)
  all_grounded (by.Grounded.gate q g at g0 g1) = elim (cases_eq (variable g.lhs) (variable lhs)) [
    | inl e ↦ rw e changed_grounded
    | inr ne ↦ by.Grounded.gate q g (kept raw sound lhs r0 r1 is_gate q g at ne) (all_grounded g0) (all_grounded g1)
  ]

  pub still_acyclic : IsAcyclic (with_gate raw lhs r0 r1)
  still_acyclic v h =
      let (g, q, at, is) = gate_of (with_gate raw lhs r0 r1) v h in
      let (k, here, same) = gate_old raw sound lhs r0 r1 is_gate q g at in
      let e : variable k.lhs ≡ v = ap (λ (w : Gate). variable w.lhs) same ∙ is in
      rw (← e) (all_grounded (acyclic (variable k.lhs) (IsGate-of_gate raw q k here)))

-- the walk of a change: both new right sides were met
pub record IsSearch (raw : Raw) (lhs r0 r1 : ℕ) (pending : List ℕ) (met : List Bool) : Type 0 where
  pub walk : IsWalk raw (variable lhs) (variable r0) (variable r1) pending [] met
  pub first : get_or met (variable r0) false ≡ true
  pub second : get_or met (variable r1) false ≡ true

-- a meeting marks the variable
pub meets_mark : (x : ℕ) (pending pending' : List ℕ) (met met' : List Bool) → x < length met
    → Meets x met met' pending pending' → get_or met' x false ≡ true
meets_mark x pending pending' met met' lt m =
    ap (λ bs. get_or bs x false) m.marked ∙ get_or-set_same met x true false lt

pub meets_keep : (x v : ℕ) (pending pending' : List ℕ) (met met' : List Bool) → x < length met
    → Meets x met met' pending pending'
    → get_or met v false ≡ true → get_or met' v false ≡ true
meets_keep x v pending pending' met met' lt m h = ap (λ bs. get_or bs v false) m.marked ∙ stays_met met x v lt h

pub meets_size : (x : ℕ) (pending pending' : List ℕ) (met met' : List Bool) → Meets x met met' pending pending'
    → length met' ≡ length met
meets_size x pending pending' met met' m = ap length m.marked ∙ length-set met x true

-- what is left to do stays as much
pub meets_left : (x : ℕ) (pending pending' : List ℕ) (met met' : List Bool) → x < length met
    → Meets x met met' pending pending'
    → count_by not met' + length pending' ≡ count_by not met + length pending
meets_left x pending pending' met met' lt m = elim (cases_Bool (get_or met x false)) [
  | inl e ↦
      (let same : pending' ≡ pending = rw e at m.added in
      let none : set met x true ≡ met = ap (set met x) (sym e) ∙ set-get_or met x false in
      ap (λ bs. count_by not bs + length pending') (m.marked ∙ none) ∙ ap (λ xs. count_by not met + length xs) same)
  | inr e ↦
      (let more : pending' ≡ pending ++ x ∷ [] = rw e at m.added in
      let count : count_by not (set met x true) + 1 ≡ count_by not met + 0 =
      rw e at (sum_by-set (λ b. cond (not b) 1 0) met x true false lt) in
      let size = length_push pending x in
      let f : count_by not met' ≡ count_by not (set met x true) = ap (count_by not) m.marked in
      let g : length pending' ≡ length (pending ++ x ∷ []) = ap length more in
      omega arith)
]

module _ (raw : Raw) (lhs r0 r1 : ℕ) where
  pub search_begin : (p0 p1 p2 : List ℕ) (m0 m1 m2 : List Bool) → IsSound raw → IsDefined raw (variable r0)
      → IsDefined raw (variable r1)
      → m0 ≡ replicate (raw.max_var + 1) false → p0 ≡ [] → Meets (variable r0) m0 m1 p0 p1
      → Meets (variable r1) m1 m2 p1 p2
      → IsSearch raw lhs r0 r1 p2 m2
  search_begin p0 p1 p2 m0 m1 m2 sound d0 d1 is e meet0 meet1 =
      let start = walk_none raw (variable lhs) (variable r0) (variable r1) m0 p0 is e in
      let size = meets_size (variable r0) p0 p1 m0 m1 meet0 in
      let lt0 : variable r0 < length m0 = let w = defined_in_range raw sound (variable r0) d0 in
      omega (arith, start.size) in
      let lt1 : variable r1 < length m1 = let w = defined_in_range raw sound (variable r1) d1 in
      omega (arith, start.size) in
      let w1 = walk_meet raw (variable lhs) (variable r0) (variable r1) (variable r0) p0 p1 [] m0 m1 lt0 Reached.first
      meet0 start in
      record {
        walk = walk_meet raw (variable lhs) (variable r0) (variable r1) (variable r1) p1 p2 [] m1 m2 lt1 Reached.second
            meet1 w1;
        first = meets_keep (variable r1) (variable r0) p1 p2 m1 m2 lt1 meet1
            (meets_mark (variable r0) p0 p1 m0 m1 lt0 meet0);
        second = meets_mark (variable r1) p1 p2 m1 m2 lt1 meet1;
      }

  pub search_gate : (u : ℕ) (g : Gate) (pending p0 p1 p2 : List ℕ) (m0 m1 m2 : List Bool) → IsSound raw
      → pending ≡ p0 ++ u ∷ []
      → u ≢ variable lhs → (q : ℕ) × (slice_get raw.gates q ≡ Some g) × (variable g.lhs ≡ u)
      → Meets (variable g.rhs0) m0 m1 p0 p1 → Meets (variable g.rhs1) m1 m2 p1 p2
      → IsSearch raw lhs r0 r1 pending m0 → IsSearch raw lhs r0 r1 p2 m2
  search_gate u g pending p0 p1 p2 m0 m1 m2 sound e ne (q, at, is) meet0 meet1 s =
      let t = variable lhs in
      let size = meets_size (variable g.rhs0) p0 p1 m0 m1 meet0 in
      let (in0, in1) = sides_in_range raw sound q g at in
      let lt0 : variable g.rhs0 < length m0 = omega (arith, s.walk.size) in
      let lt1 : variable g.rhs1 < length m1 = omega (arith, s.walk.size) in
      let popped = walk_pop raw t (variable r0) (variable r1) u pending p0 m0 e s.walk in
      let at_u : Reached raw t (variable r0) (variable r1) (variable g.lhs) =
      rw is (s.walk.reached u (s.walk.pending_met u (rw e (Contains-push p0 u)))) in
      let away : variable g.lhs ≢ t = λ k. ne (sym is ∙ k) in
      let w1 = walk_meet raw t (variable r0) (variable r1) (variable g.rhs0) p0 p1 (u ∷ []) m0 m1 lt0
      (Reached.left q g at away at_u) meet0 popped in
      let w2 = walk_meet raw t (variable r0) (variable r1) (variable g.rhs1) p1 p2 (u ∷ []) m1 m2 lt1
      (Reached.right q g at away at_u) meet1 w1 in
      let side0 : get_or m2 (variable g.rhs0) false ≡ true =
      meets_keep (variable g.rhs1) (variable g.rhs0) p1 p2 m1 m2 lt1 meet1
      (meets_mark (variable g.rhs0) p0 p1 m0 m1 lt0 meet0) in
      let side1 : get_or m2 (variable g.rhs1) false ≡ true = meets_mark (variable g.rhs1) p1 p2 m1 m2 lt1 meet1 in
      let keep : (v : ℕ) → get_or m0 v false ≡ true → get_or m2 v false ≡ true =
      λ v h. meets_keep (variable g.rhs1) v p1 p2 m1 m2 lt1 meet1
      (meets_keep (variable g.rhs0) v p0 p1 m0 m1 lt0 meet0 h) in
      record {
        walk = walk_close raw t (variable r0) (variable r1) u p2 m2 (closes u g m2 q sound at is ne side0 side1) w2;
        first = keep (variable r0) s.first;
        second = keep (variable r1) s.second;
      }
    where
      closes : (u : ℕ) (g : Gate) (m2 : List Bool) (q : ℕ) → IsSound raw → slice_get raw.gates q ≡ Some g
          → variable g.lhs ≡ u → u ≢ variable lhs
          → get_or m2 (variable g.rhs0) false ≡ true → get_or m2 (variable g.rhs1) false ≡ true
          → IsClosed raw (variable lhs) m2 u
      closes u g m2 q sound at is ne side0 side1 = record {
        other = ne;
        sides = λ r h found k.
            let one : g ≡ h = same_gate raw sound q r g h at found (is ∙ sym k) in (
              ap (λ (w : Gate). get_or m2 (variable w.rhs0) false) (sym one)
                  ∙ side0,
              ap (λ (w : Gate). get_or m2 (variable w.rhs1) false) (sym one) ∙ side1,
            );
      }

  pub search_pass : (u : ℕ) (pending rest : List ℕ) (met : List Bool) → pending ≡ rest ++ u ∷ [] → u ≢ variable lhs
      → (IsGate raw u → ⊥)
      → IsSearch raw lhs r0 r1 pending met → IsSearch raw lhs r0 r1 rest met
  search_pass u pending rest met e ne other s = record {
    walk = walk_pass raw (variable lhs) (variable r0) (variable r1) u rest met ne other
        (walk_pop raw (variable lhs) (variable r0) (variable r1) u pending rest met e s.walk);
    first = s.first;
    second = s.second;
  }

  pub search_found : (u : ℕ) (pending rest : List ℕ) (met : List Bool) → IsSound raw → IsLeftSide raw lhs
      → pending ≡ rest ++ u ∷ []
      → u ≡ variable lhs → IsSearch raw lhs r0 r1 pending met → IsAcyclic (with_gate raw lhs r0 r1) → ⊥
  search_found u pending rest met sound is_gate e same s =
      cycle_from_reached raw sound lhs r0 r1 is_gate
      (subst (Reached raw (variable lhs) (variable r0) (variable r1)) same
      (s.walk.reached u (s.walk.pending_met u (rw e (Contains-push rest u)))))

  pub search_done : (pending : List ℕ) (met : List Bool) → IsCircuit raw → IsLeftSide raw lhs
      → IsDefined raw (variable r0)
      → IsDefined raw (variable r1) → pending ≡ [] → IsSearch raw lhs r0 r1 pending met
      → IsAcyclic (with_gate raw lhs r0 r1)
  search_done pending met is is_gate d0 d1 none s =
      still_acyclic raw is.sound is.acyclic lhs r0 r1 is_gate d0 d1 met s.first s.second
      (λ v h. elim (s.walk.each v h) [
        | inl p ↦ absurd (no_element v (rw none at p))
        | inr o ↦ elim o [
          | inl p ↦ absurd (no_element v p)
          | inr c ↦ c
        ]
      ])

-- the right sides' variables have a mark each
pub side_fits : (raw : Raw) (lhs r0 r1 : ℕ) (pending : List ℕ) (met : List Bool) (g : Gate) (u : ℕ) → IsSound raw
    → IsSearch raw lhs r0 r1 pending met → (q : ℕ) × (slice_get raw.gates q ≡ Some g) × (variable g.lhs ≡ u)
    → (variable g.rhs0 < length met) × (variable g.rhs1 < length met)
side_fits raw lhs r0 r1 pending met g u sound s (q, at, is) =
    let (in0, in1) = sides_in_range raw sound q g at in (omega (arith, s.walk.size), omega (arith, s.walk.size))
