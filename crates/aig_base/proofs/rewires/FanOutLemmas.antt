-- A gate's new right sides close a cycle exactly where one is in its fan-out, and what is there has greater
-- levels.
use Rattle.std.proofs.Common.{◌≡◌, ◌≢◌, ◌⊎◌, ◌↔◌, inl, inr, ℕ, ◌+◌, ◌<◌, ◌≤◌, max, Some, slice_get, refl, sym, ◌∙◌, ap}
use Rattle.std.proofs.Common.{subst, arith}
use Rattle.std.proofs.lemmas.Bool.{cases_eq}
use Rattle.aig_parts.specs.declared.gate.Gate.{Gate}
use Rattle.aig_parts.specs.declared.raw.Raw.{Raw}
use Rattle.aig_base.specs.Changes.{rewired, with_gate}
use Rattle.aig_base.specs.Grounded.{Grounded, IsSource, IsAcyclic, Level}
use Rattle.aig_base.specs.Grounded as by
use Rattle.aig_parts.specs.Literal.{variable}
use Rattle.aig_base.specs.Readers.{IsSide}
use Rattle.aig_base.specs.state.Rewires.{IsInFanOut, IsSearchUp}
use Rattle.aig_base.specs.Sections.{IsDefined, IsGate, IsLeftSide}
use Rattle.aig_base.specs.Sound.{IsSound}
use Rattle.aig_base.proofs.circuits.Defined.{Grounded-of_defined}
use Rattle.aig_base.proofs.circuits.Gates.{IsGate-of_gate, gate_of, same_gate, source-gate}
use Rattle.aig_base.proofs.levels.OneLevel.{same_level}
use Rattle.aig_base.proofs.checks.Walks.{Path, no_path, the_gate, gate_new, gate_old, kept, source_new, rewired_same}

-- a way to t as the walk back has it
pub path_of : {raw : Raw} {t v : ℕ} → IsInFanOut raw t v → Path raw t v
path_of IsInFanOut.self = Path.stop
path_of {raw} {t} (IsInFanOut.reader q g u at side b) = elim (cases_eq (variable g.lhs) t) [
  | inl e ↦ rw e Path.stop
  | inr ne ↦ elim side [
    | inl e ↦ Path.left q g at ne (subst (Path raw t) (sym e) (path_of b))
    | inr e ↦ Path.right q g at ne (subst (Path raw t) (sym e) (path_of b))
  ]
]

module _ (raw : Raw) (sound : IsSound raw) (lhs r0 r1 : ℕ) (is_gate : IsLeftSide raw lhs) where
  -- a new side in the gate's fan-out closes a cycle
  pub cycle_from_fan_out : IsInFanOut raw (variable lhs) (variable r0) ⊎ IsInFanOut raw (variable lhs) (variable r1)
      → IsAcyclic (with_gate raw lhs r0 r1) → ⊥
  cycle_from_fan_out ends acyclic =
      let (g, q, at, is) = the_gate raw sound lhs r0 r1 is_gate in
      let left : (rewired lhs r0 r1 g).lhs ≡ lhs = is in
      let gate : IsGate (with_gate raw lhs r0 r1) (variable lhs) =
      subst (λ l. IsGate (with_gate raw lhs r0 r1) (variable l)) left
      (IsGate-of_gate (with_gate raw lhs r0 r1) q (rewired lhs r0 r1 g)
      (gate_new raw sound lhs r0 r1 is_gate q g at)) in
      let ways : Path raw (variable lhs) (variable r0) ⊎ Path raw (variable lhs) (variable r1) =
      elim ends [ inl b ↦ inl (path_of b) | inr b ↦ inr (path_of b) ] in
      no_path raw sound lhs r0 r1 is_gate ways (acyclic (variable lhs) gate) Path.stop

  -- what is not in the gate's fan-out stays grounded, and keeps its level
  pub grounded_before : {v : ℕ} → Grounded raw v → (IsInFanOut raw (variable lhs) v → ⊥)
      → Grounded (with_gate raw lhs r0 r1) v
  grounded_before (by.Grounded.source v s) never = by.Grounded.source v (source_new raw sound lhs r0 r1 is_gate v s)
  grounded_before (by.Grounded.gate q g at g0 g1) never =
      by.Grounded.gate q g
      (kept raw sound lhs r0 r1 is_gate q g at (λ e. never (subst (IsInFanOut raw (variable lhs)) (sym e) IsInFanOut.self)))
      (grounded_before g0 (λ b. never (IsInFanOut.reader q g (variable g.rhs0) at (inl refl) b)))
      (grounded_before g1 (λ b. never (IsInFanOut.reader q g (variable g.rhs1) at (inr refl) b)))

  pub level_before : {v n : ℕ} → Level raw v n → (IsInFanOut raw (variable lhs) v → ⊥)
      → Level (with_gate raw lhs r0 r1) v n
  level_before (by.Level.source v s) never = by.Level.source v (source_new raw sound lhs r0 r1 is_gate v s)
  level_before (by.Level.gate q g a b at la lb) never =
      by.Level.gate q g a b
      (kept raw sound lhs r0 r1 is_gate q g at (λ e. never (subst (IsInFanOut raw (variable lhs)) (sym e) IsInFanOut.self)))
      (level_before la (λ b. never (IsInFanOut.reader q g (variable g.rhs0) at (inl refl) b)))
      (level_before lb (λ b. never (IsInFanOut.reader q g (variable g.rhs1) at (inr refl) b)))

  module _ (acyclic : IsAcyclic raw) (d0 : IsDefined raw (variable r0)) (d1 : IsDefined raw (variable r1))
      (never0 : IsInFanOut raw (variable lhs) (variable r0) → ⊥) (never1 : IsInFanOut raw (variable lhs) (variable r1)
      → ⊥) where
    new_gate_at : (q : ℕ) (g : Gate) → slice_get raw.gates q ≡ Some g → g.lhs ≡ lhs
        → slice_get (with_gate raw lhs r0 r1).gates q ≡ Some (record { lhs = g.lhs; rhs0 = r0; rhs1 = r1 })
    new_gate_at q g at is = gate_new raw sound lhs r0 r1 is_gate q g at ∙ ap Some (rewired_same lhs r0 r1 g is)

    changed_gate : Grounded (with_gate raw lhs r0 r1) (variable lhs)
    changed_gate =
        let (g, q, at, is) = the_gate raw sound lhs r0 r1 is_gate in
        subst (λ l. Grounded (with_gate raw lhs r0 r1) (variable l)) is
        (by.Grounded.gate q (record { lhs = g.lhs; rhs0 = r0; rhs1 = r1 }) (new_gate_at q g at is)
        (grounded_before (Grounded-of_defined raw acyclic (variable r0) d0) never0)
        (grounded_before (Grounded-of_defined raw acyclic (variable r1) d1) never1))

    -- the changed gate's new level is over the levels of its new sides
    pub changed_level : (a b : ℕ) → Level raw (variable r0) a → Level raw (variable r1) b
        → Level (with_gate raw lhs r0 r1) (variable lhs) (max a b + 1)
    changed_level a b la lb =
        let (g, q, at, is) = the_gate raw sound lhs r0 r1 is_gate in
        subst (λ l. Level (with_gate raw lhs r0 r1) (variable l) (max a b + 1)) is
        (by.Level.gate q (record { lhs = g.lhs; rhs0 = r0; rhs1 = r1 }) a b (new_gate_at q g at is)
        (level_before la never0) (level_before lb never1))

    still_grounded : {v : ℕ} → Grounded raw v → Grounded (with_gate raw lhs r0 r1) v
    still_grounded (by.Grounded.source v s) = by.Grounded.source v (source_new raw sound lhs r0 r1 is_gate v s)
    still_grounded (by.Grounded.gate q g at g0 g1) = elim (cases_eq (variable g.lhs) (variable lhs)) [
      | inl e ↦ rw e changed_gate
      | inr ne ↦ by.Grounded.gate q g (kept raw sound lhs r0 r1 is_gate q g at ne) (still_grounded g0)
          (still_grounded g1)
    ]

    -- where no new side is in the gate's fan-out there is no cycle
    pub acyclic_from_before : IsAcyclic (with_gate raw lhs r0 r1)
    acyclic_from_before v h =
        let (g, q, at, is) = gate_of (with_gate raw lhs r0 r1) v h in
        let (k, here, same) = gate_old raw sound lhs r0 r1 is_gate q g at in
        let e : variable k.lhs ≡ v = ap (λ (w : Gate). variable w.lhs) same ∙ is in
        subst (Grounded (with_gate raw lhs r0 r1)) e (still_grounded (acyclic (variable k.lhs)
        (IsGate-of_gate raw q k here)))

-- what a variable in the fan-out of t is
pub Opens : Raw → ℕ → ℕ → Type 0
Opens raw t v =
    (v ≡ t)
    ⊎ ((q : ℕ) × (g : Gate) × (u : ℕ) × (slice_get raw.gates q ≡ Some g) × IsSide g u × (variable g.lhs ≡ v)
    × IsInFanOut raw t u)

pub opens : {raw : Raw} {t v : ℕ} → IsInFanOut raw t v → Opens raw t v
unfolding Opens
opens IsInFanOut.self = inl refl
opens (IsInFanOut.reader q g u at side b) = inr (q, g, u, at, side, refl, b)

-- a side of a gate has a level, below the gate's
pub side_level : {raw : Raw} {v n : ℕ} → IsSound raw → Level raw v n → (q : ℕ) (g : Gate) (u : ℕ)
    → slice_get raw.gates q ≡ Some g
    → IsSide g u → variable g.lhs ≡ v → (m : ℕ) × Level raw u m × (m < n)
side_level {raw} sound (by.Level.source v s) q g u at side is = absurd (source-gate raw sound v q g at s (sym is))
side_level {raw} sound (by.Level.gate k h a b here la lb) q g u at side is =
    let one : g ≡ h = same_gate raw sound q k g h at here is in
    elim side [
      | inl e ↦ (a, subst (λ x. Level raw x a) (ap (λ (x : Gate). variable x.rhs0) (sym one) ∙ e) la, omega arith)
      | inr e ↦ (b, subst (λ x. Level raw x b) (ap (λ (x : Gate). variable x.rhs1) (sym one) ∙ e) lb, omega arith)
    ]

-- where the search up has ended, neither x nor y is in the fan-out of t
module _ (raw : Raw) (sound : IsSound raw) (t x y bound : ℕ) (met queued : ℕ → Type 0)
    (s : IsSearchUp raw t x y bound met queued)
    (none : (v : ℕ) → queued v → ⊥) where
  met_below : {v n : ℕ} → IsInFanOut raw t v → Level raw v n → n < bound → met v
  met_below IsInFanOut.self l lt = s.start
  met_below {n = n} (IsInFanOut.reader q g u at side b) l lt =
      let (k, lu, below) = side_level sound l q g u at side refl in
      let m = met_below b lu (omega arith) in
      elim (s.looked q g u at side m) [
        | inl w ↦ absurd (none u w)
        | inr h ↦ h.2 n l lt
      ]

  pub not_in_fan_out : (z n : ℕ) → (z ≡ x) ⊎ (z ≡ y) → z ≢ t → Level raw z n → n ≤ bound → IsInFanOut raw t z → ⊥
  unfolding Opens
  not_in_fan_out z n is ne l le b = elim (opens b) [
    | inl e ↦ ne e
    | inr h ↦
        (let (q, g, u, at, side, left, bu) = h in
        let (k, lu, below) = side_level sound l q g u at side left in
        let m = met_below bu lu (omega arith) in
        elim (s.looked q g u at side m) [
          | inl w ↦ none u w
          | inr w ↦ elim is [ inl e ↦ w.0 (left ∙ e) | inr e ↦ w.1 (left ∙ e) ]
        ])
  ]

-- one step: the readers of u were looked at
pub search_stepped : (raw : Raw) (t x y bound u : ℕ) (met queued met' queued' : ℕ → Type 0)
    → IsSearchUp raw t x y bound met queued
    → ((v : ℕ) → met v → met' v)
    → ((v : ℕ) → met' v → met v ⊎ ((q : ℕ) × (g : Gate) × (slice_get raw.gates q ≡ Some g) × IsSide g u
    × (variable g.lhs ≡ v) × queued' v))
    → met u → ((v : ℕ) → queued v → (v ≡ u) ⊎ queued' v)
    → ((q : ℕ) (g : Gate) → slice_get raw.gates q ≡ Some g → IsSide g u
    → (variable g.lhs ≢ x) × (variable g.lhs ≢ y)
    × ((m : ℕ) → Level raw (variable g.lhs) m → m < bound → met' (variable g.lhs)))
    → IsSearchUp raw t x y bound met' queued'
search_stepped raw t x y bound u met queued met' queued' s keeps new met_u left looked = record {
  start = keeps t s.start;
  reached = λ v h. elim (new v h) [
    | inl m ↦ s.reached v m
    | inr w ↦
        (let (q, g, at, side, is, later) = w in
        subst (IsInFanOut raw t) is (IsInFanOut.reader q g u at side (s.reached u met_u)))
  ];
  looked = λ q g v at side h. elim (new v h) [
    | inl m ↦ elim (s.looked q g v at side m) [
      | inl w ↦ elim (left v w) [
        | inl e ↦ inr (looked q g at (elim side [ inl f ↦ inl (f ∙ e) | inr f ↦ inr (f ∙ e) ]))
        | inr k ↦ inl k
      ]
      | inr k ↦ inr (k.0, k.1, λ m l lt. keeps (variable g.lhs) (k.2 m l lt))
    ]
    | inr w ↦ (let (k, z, here, sides, is, later) = w in inl later)
  ];
}

-- before the search only t was met, and it waits
pub search_begun : (raw : Raw) (t x y bound : ℕ) (met queued : ℕ → Type 0) → ((v : ℕ) → met v ↔ (v ≡ t)) → ((v : ℕ)
    → met v → queued v)
    → IsSearchUp raw t x y bound met queued
search_begun raw t x y bound met queued is pending = record {
  start = (is t).1 refl_t;
  reached = λ v h. subst_fan_out v ((is v).0 h);
  looked = λ q g u at side h. inl (pending u h);
}
  where
    refl_t : t ≡ t
    refl_t = refl

    subst_fan_out : (v : ℕ) → v ≡ t → IsInFanOut raw t v
    subst_fan_out v e = rw e IsInFanOut.self
