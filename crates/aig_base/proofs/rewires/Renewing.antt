-- The pass over a changed gate's fan-out, in the order of the old levels, gives the levels of the new circuit.
use Rattle.std.proofs.Common.{◌≡◌, ◌≢◌, ◌⊎◌, inl, inr, ℕ, ◌+◌, ◌<◌, ◌≤◌, max, List, Option, Some, None, slice_get, refl}
use Rattle.std.proofs.Common.{sym, ◌∙◌, ap, subst, arith}
use Rattle.std.proofs.lemmas.Bool.{cases_eq}
use Rattle.std.proofs.lemmas.Option.{same_Some}
use Rattle.aig_parts.specs.declared.gate.Gate.{Gate}
use Rattle.aig_parts.specs.declared.raw.Raw.{Raw}
use Rattle.aig_base.specs.Changes.{with_gate}
use Rattle.aig_base.specs.Grounded.{Grounded, IsSource, IsAcyclic, Level}
use Rattle.aig_base.specs.Grounded as by
use Rattle.aig_base.specs.Levels.{AreLevels}
use Rattle.aig_parts.specs.Literal.{variable}
use Rattle.aig_base.specs.Readers.{IsSide}
use Rattle.aig_base.specs.state.Rewires.{IsInFanOut, HoldsLevel, NeedsLevel, Renewing, RenewsAt}
use Rattle.aig_base.specs.Sections.{IsDefined, IsLeftSide}
use Rattle.aig_base.specs.Sound.{IsSound}
use Rattle.aig_base.proofs.rewires.FanOutLemmas.{changed_level, side_level}
use Rattle.aig_base.proofs.circuits.Gates.{IsGate-of_gate, source-gate}
use Rattle.aig_base.proofs.levels.OneLevel.{level_of, same_level, Grounded-of_level}
use Rattle.aig_base.proofs.checks.Walks.{the_gate, gate_old, kept, source_new, source_old}

pub same_cell : (o p : Option ℕ) → (o ≡ p) ⊎ (o ≢ p)
same_cell None None = inl refl
same_cell None (Some b) = inr (λ e. cc)
same_cell (Some a) None = inr (λ e. cc)
same_cell (Some a) (Some b) = elim (cases_eq a b) [
  | inl e ↦ inl (ap Some e)
  | inr ne ↦ inr (λ e. ne (same_Some a b e))
]

abbrev pub From : Raw → ℕ → Type 0
From raw u = IsSource raw u ⊎ ((q : ℕ) × (g : Gate) × (slice_get raw.gates q ≡ Some g) × (variable g.lhs ≡ u))

pub from_level : {raw : Raw} {v m : ℕ} → Level raw v m → From raw v
from_level (by.Level.source v s) = inl s
from_level (by.Level.gate q g a b at la lb) = inr (q, g, at, refl)

module _ (raw : Raw) (sound : IsSound raw) (acyclic : IsAcyclic raw) (lhs r0 r1 : ℕ) (is_gate : IsLeftSide raw lhs)
    (old : List ℕ) (are : AreLevels raw old) where
  abbrev new : Raw
  new = with_gate raw lhs r0 r1

  abbrev t : ℕ
  t = variable lhs

  pub gate_level : (q : ℕ) (g : Gate) → slice_get raw.gates q ≡ Some g → (n : ℕ) × Level raw (variable g.lhs) n
  gate_level q g at = level_of (acyclic (variable g.lhs) (IsGate-of_gate raw q g at))

  pub t_level : (k : ℕ) × Level raw t k
  t_level =
      let (g, q, at, is) = the_gate raw sound lhs r0 r1 is_gate in
      let (k, l) = gate_level q g at in
      (k, subst (λ x. Level raw (variable x) k) is l)

  -- what is grounded in the new circuit has an old level
  grounded_old : {v : ℕ} → Grounded new v → Grounded raw v
  grounded_old (by.Grounded.source v s) = by.Grounded.source v (source_old raw sound lhs r0 r1 is_gate v s)
  grounded_old (by.Grounded.gate q g at g0 g1) =
      let (k, here, same) = gate_old raw sound lhs r0 r1 is_gate q g at in
      subst (Grounded raw) (ap (λ (x : Gate). variable x.lhs) same)
      (acyclic (variable k.lhs) (IsGate-of_gate raw q k here))

  module _ (row : List ℕ) (queued done : ℕ → Type 0) (dec : (v : ℕ) → done v ⊎ (done v → ⊥))
      (h : Renewing raw lhs r0 r1 old row queued done) where
    -- the row has the old level of a side of a gate that was not evaluated and does not wait
    old_cell : (q : ℕ) (g : Gate) (u : ℕ) → slice_get raw.gates q ≡ Some g → variable g.lhs ≢ t → IsSide g u
        → (queued (variable g.lhs) ⊎ done (variable g.lhs) → ⊥) → From raw u → slice_get row u ≡ slice_get old u
    old_cell q g u at ne side never (inl s) = h.sources u s
    old_cell q g u at ne side never (inr (k, x, here, is)) = elim (same_cell (slice_get row u) (slice_get old u)) [
      | inl e ↦ e
      | inr apart ↦ elim (cases_eq u t) [
        | inl e ↦ absurd (never (h.linked q g u at ne side (inl e) apart))
        | inr other ↦ elim (dec u) [
          | inl d ↦ absurd (never (h.linked q g u at ne side (inr d) apart))
          | inr nd ↦
              subst (λ v. slice_get row v ≡ slice_get old v) is
              (h.others k x here (λ e. other (sym is ∙ e)) (λ d. nd (subst done is d)))
        ]
      ]
    ]

    old_level : (q : ℕ) (g : Gate) (u a : ℕ) → slice_get raw.gates q ≡ Some g → variable g.lhs ≢ t → IsSide g u
        → (queued (variable g.lhs) ⊎ done (variable g.lhs) → ⊥) → Level raw u a → HoldsLevel new row u → Level new u a
    old_level q g u a at ne side never l k =
        let same : k.level ≡ a =
        same_Some k.level a (sym k.cell ∙ old_cell q g u at ne side never (from_level l) ∙ are.each u a l) in
        subst (Level new u) same k.has

    untouched : (q : ℕ) (g : Gate) (a b : ℕ) → slice_get raw.gates q ≡ Some g → variable g.lhs ≢ t
        → (queued (variable g.lhs) ⊎ done (variable g.lhs) → ⊥) → Level raw (variable g.rhs0) a
        → Level raw (variable g.rhs1) b
        → HoldsLevel new row (variable g.rhs0) → HoldsLevel new row (variable g.rhs1)
        → HoldsLevel new row (variable g.lhs)
    untouched q g a b at ne never la lb h0 h1 = record {
      level = max a b + 1;
      has = by.Level.gate q g a b (kept raw sound lhs r0 r1 is_gate q g at ne)
          (old_level q g (variable g.rhs0) a at ne (inl refl) never la h0)
          (old_level q g (variable g.rhs1) b at ne (inr refl) never lb h1);
      cell = h.others q g at ne (λ d. never (inr d)) ∙ are.each (variable g.lhs) (max a b + 1)
          (by.Level.gate q g a b at la lb);
    }

    -- where no gate of an old level below n waits, all variables of such a level have their new levels
    pub reached : (n : ℕ) → ((v m : ℕ) → queued v → Level raw v m → n ≤ m) → {v m : ℕ} → Level raw v m → m < n
        → HoldsLevel new row v
    reached n high (by.Level.source v s) lt = record {
      level = 0;
      has = by.Level.source v (source_new raw sound lhs r0 r1 is_gate v s);
      cell = h.sources v s ∙ are.each v 0 (by.Level.source v s);
    }
    reached n high (by.Level.gate q g a b at la lb) lt = elim (cases_eq (variable g.lhs) t) [
      | inl e ↦ subst (HoldsLevel new row) (sym e) h.changed
      | inr ne ↦ elim (dec (variable g.lhs)) [
        | inl d ↦ h.evaluated (variable g.lhs) d
        | inr nd ↦
            untouched q g a b at ne
            (λ w. elim w [
              | inl k ↦ (let le = high (variable g.lhs) (max a b + 1) k (by.Level.gate q g a b at la lb) in omega arith)
              | inr d ↦ nd d
            ])
            la lb (reached n high la (omega arith)) (reached n high lb (omega arith))
      ]
    ]

    -- where no gate waits the row has the levels of the new circuit
    pub ended : IsSound new → ((v : ℕ) → queued v → ⊥) → AreLevels new row
    ended sound_new none = record {
      size = h.size ∙ are.size;
      each = λ v n l. (
          let (m, was) = level_of (grounded_old (Grounded-of_level l)) in
          let k = reached (m + 1) (λ u j w. absurd (none u w)) was (omega arith) in
          k.cell ∙ ap Some (same_level sound_new k.has l));
    }

    -- the sides of a gate that waits at the least old level have their new levels
    pub side_holds : (q : ℕ) (g : Gate) (u n : ℕ) → slice_get raw.gates q ≡ Some g → Level raw (variable g.lhs) n
        → ((v m : ℕ) → queued v → Level raw v m → n ≤ m) → IsSide g u → HoldsLevel new row u
    side_holds q g u n at l high side =
        let (k, lu, below) = side_level sound l q g u at side refl in
        reached n high lu below

    -- one step, at a gate that waits at the least old level
    module _ (q : ℕ) (g : Gate) (at : slice_get raw.gates q ≡ Some g) (w_queued : queued (variable g.lhs)) (n : ℕ)
        (l : Level raw (variable g.lhs) n) (high : (v m : ℕ) → queued v → Level raw v m → n ≤ m) (x y : ℕ)
        (x_is : slice_get row (variable g.rhs0) ≡ Some x) (y_is : slice_get row (variable g.rhs1) ≡ Some y)
        (row' : List ℕ) (queued' : ℕ → Type 0)
        (r : RenewsAt raw (variable g.lhs) (max x y + 1) row row' queued queued') where
      abbrev w : ℕ
      w = variable g.lhs

      abbrev done' : ℕ → Type 0
      done' v = (v ≡ variable g.lhs) ⊎ done v

      not_t : w ≢ t
      not_t e =
          let (k, lt) = t_level in
          let below = h.over w n k w_queued l lt in
          let same : n ≡ k = same_level sound (subst (λ v. Level raw v n) e l) lt in
          omega arith

      not_done : (v : ℕ) → done v → v ≢ w
      not_done v d e = h.fresh w w_queued (subst done e d)

      side0 : HoldsLevel new row (variable g.rhs0)
      side0 = side_holds q g (variable g.rhs0) n at l high (inl refl)

      side1 : HoldsLevel new row (variable g.rhs1)
      side1 = side_holds q g (variable g.rhs1) n at l high (inr refl)

      still : (v : ℕ) → v ≢ w → HoldsLevel new row v → HoldsLevel new row' v
      still v ne k = record { level = k.level; has = k.has; cell = r.same v ne ∙ k.cell }

      here_holds : HoldsLevel new row' w
      here_holds = record {
        level = max x y + 1;
        has = by.Level.gate q g x y (kept raw sound lhs r0 r1 is_gate q g at not_t)
            (subst (Level new (variable g.rhs0)) (same_Some side0.level x (sym side0.cell ∙ x_is)) side0.has)
            (subst (Level new (variable g.rhs1)) (same_Some side1.level y (sym side1.cell ∙ y_is)) side1.has);
        cell = r.cell;
      }

      -- the row had the old level there
      was_old : slice_get row w ≡ slice_get old w
      was_old = h.others q g at not_t (λ d. h.fresh w w_queued d)

      reader_over : (k : ℕ) (z : Gate) (m : ℕ) → slice_get raw.gates k ≡ Some z → IsSide z w
          → Level raw (variable z.lhs) m → n < m
      reader_over k z m here side lz =
          let (j, lw, below) = side_level sound lz k z w here side refl in
          let same : j ≡ n = same_level sound lw l in
          omega arith

      queued_from : (v m : ℕ) → queued' v → Level raw v m → (queued v × (v ≢ w)) ⊎ (n < m)
      queued_from v m k lv = elim (r.new v k) [
        | inl p ↦ inl p
        | inr p ↦
            (let (j, z, here, side, is) = p.1 in
            inr (reader_over j z m here side (subst (λ u. Level raw u m) (sym is) lv)))
      ]

      linked' : (j : ℕ) (z : Gate) (u : ℕ) → slice_get raw.gates j ≡ Some z → variable z.lhs ≢ t → IsSide z u
          → (u ≡ t) ⊎ done' u → slice_get row' u ≢ slice_get old u → queued' (variable z.lhs) ⊎ done' (variable z.lhs)
      linked' j z u here ne side known apart = elim (cases_eq u w) [
        | inl e ↦
            inl (r.readers (λ k. apart (ap (slice_get row') e ∙ r.cell ∙ sym k ∙ was_old
            ∙ ap (slice_get old) (sym e))) j z here
            (elim side [ inl f ↦ inl (f ∙ e) | inr f ↦ inr (f ∙ e) ]))
        | inr other ↦
            (let before : slice_get row u ≢ slice_get old u = (λ k. apart (r.same u other ∙ k)) in
            let known_before : (u ≡ t) ⊎ done u = elim known [
              | inl e ↦ inl e
              | inr d ↦ elim d [ inl e ↦ absurd (other e) | inr k ↦ inr k ]
            ] in
            elim (h.linked j z u here ne side known_before before) [
              | inl k ↦ elim (r.keeps (variable z.lhs) k) [ inl e ↦ inr (inl e) | inr k' ↦ inl k' ]
              | inr d ↦ inr (inr d)
            ])
      ]

      touched_still : (v : ℕ) → NeedsLevel raw t old row done v → NeedsLevel raw t old row' done' v
      touched_still v (j, z, u, here, side, is, known, apart) =
          let other : u ≢ w = elim known [
            | inl e ↦ (λ k. not_t (sym k ∙ e))
            | inr d ↦ not_done u d
          ] in
          let known' : (u ≡ t) ⊎ done' u = elim known [ inl e ↦ inl e | inr d ↦ inr (inr d) ] in
          (j, z, u, here, side, is, known', λ k. apart (sym (r.same u other) ∙ k))

      touched' : (v : ℕ) → queued' v ⊎ done' v → NeedsLevel raw t old row' done' v
      touched' v (inl k) = elim (r.new v k) [
        | inl p ↦ touched_still v (h.touched v (inl p.0))
        | inr p ↦
            (let (j, z, here, side, is) = p.1 in
            let apart : slice_get row' w ≢ slice_get old w = (λ e. p.0 (was_old ∙ sym e ∙ r.cell)) in
            (j, z, w, here, side, is, inr (inl refl), apart))
      ]
      touched' v (inr (inl e)) = touched_still v (h.touched v (inl (subst queued (sym e) w_queued)))
      touched' v (inr (inr d)) = touched_still v (h.touched v (inr d))

      order' : (v u m j : ℕ) → done' v → queued' u → Level raw v m → Level raw u j → m ≤ j
      order' v u m j d k lv lu =
          let low : m ≤ n = elim d [
            | inl e ↦ (let same : m ≡ n = same_level sound (subst (λ z. Level raw z m) e lv) l in omega arith)
            | inr d0 ↦ h.order v w m n d0 w_queued lv l
          ] in
          elim (queued_from u j k lu) [
            | inl p ↦ (let le = high u j p.0 lu in omega arith)
            | inr over ↦ omega arith
          ]

      fresh' : (v : ℕ) → queued' v → done' v → ⊥
      fresh' v k d = elim (r.new v k) [
        | inl p ↦ elim d [ inl e ↦ p.1 e | inr d0 ↦ h.fresh v p.0 d0 ]
        | inr p ↦
            (let (j, z, here, side, is) = p.1 in
            let (m, lz) = gate_level j z here in
            let over = reader_over j z m here side lz in
            let lv : Level raw v m = subst (λ u. Level raw u m) is lz in
            elim d [
              | inl e ↦ (let same : m ≡ n = same_level sound (subst (λ u. Level raw u m) e lv) l in omega arith)
              | inr d0 ↦ (let le = h.order v w m n d0 w_queued lv l in omega arith)
            ])
      ]

      pub stepped : Renewing raw lhs r0 r1 old row' queued' (λ v. (v ≡ variable g.lhs) ⊎ done v)
      stepped = record {
        size = r.size ∙ h.size;
        changed = still t (λ e. not_t (sym e)) h.changed;
        sources = λ v s. r.same v (λ e. source-gate raw sound v q g at s e) ∙ h.sources v s;
        evaluated = λ v d. elim d [
          | inl e ↦ subst (HoldsLevel new row') (sym e) here_holds
          | inr k ↦ still v (not_done v k) (h.evaluated v k)
        ];
        others = λ j z here ne nd. r.same (variable z.lhs) (λ e. nd (inl e)) ∙ h.others j z here ne (λ d. nd (inr d));
        linked = linked';
        touched = touched';
        fresh = fresh';
        over = λ v m k wv lv lt. elim (queued_from v m wv lv) [
          | inl p ↦ h.over v m k p.0 lv lt
          | inr over ↦ (let below = h.over w n k w_queued l lt in omega arith)
        ];
        order = order';
      }

  -- the pass begins when the changed gate has its new level
  module _ (d0 : IsDefined raw (variable r0)) (d1 : IsDefined raw (variable r1))
      (never0 : IsInFanOut raw t (variable r0) → ⊥) (never1 : IsInFanOut raw t (variable r1) → ⊥)
      (x y : ℕ) (lx : Level raw (variable r0) x) (ly : Level raw (variable r1) y)
      (row : List ℕ) (queued : ℕ → Type 0) (r : RenewsAt raw t (max x y + 1) old row (λ v. ⊥) queued) where
    begun_over : (v m k : ℕ) → queued v → Level raw v m → Level raw t k → k < m
    begun_over v m k wv lv lt = elim (r.new v wv) [
      | inl p ↦ absurd p.0
      | inr p ↦
          (let (j, z, here, side, is) = p.1 in
          let (i, lu, below) = side_level sound lv j z t here side is in
          let same : i ≡ k = same_level sound lu lt in
          omega arith)
    ]

    begun_apart : (v : ℕ) → queued v → slice_get row t ≢ slice_get old t
    begun_apart v wv e = elim (r.new v wv) [
      | inl p ↦ p.0
      | inr p ↦ p.0 (sym e ∙ r.cell)
    ]

    begun_touched : (v : ℕ) → queued v ⊎ ⊥ → NeedsLevel raw t old row (λ v. ⊥) v
    begun_touched v (inl k) = elim (r.new v k) [
      | inl p ↦ absurd p.0
      | inr p ↦
          (let (j, z, here, side, is) = p.1 in
          (j, z, t, here, side, is, inl refl, begun_apart v k))
    ]
    begun_touched v (inr k) = absurd k

    pub begun : Renewing raw lhs r0 r1 old row queued (λ v. ⊥)
    begun = record {
      size = r.size;
      changed = record {
        level = max x y + 1;
        has = changed_level raw sound lhs r0 r1 is_gate acyclic d0 d1 never0 never1 x y lx ly;
        cell = r.cell;
      };
      sources = λ v s. r.same v (λ e. (let (g, q, at, is) = the_gate raw sound lhs r0 r1 is_gate in
          source-gate raw sound v q g at s (e ∙ ap variable (sym is))));
      evaluated = λ v d. absurd d;
      others = λ q g at ne nd. r.same (variable g.lhs) ne;
      linked = λ q g u at ne side known apart. elim known [
        | inl e ↦
            inl (r.readers (λ k. apart (ap (slice_get row) e ∙ r.cell ∙ sym k ∙ ap (slice_get old) (sym e))) q g at
            (elim side [ inl f ↦ inl (f ∙ e) | inr f ↦ inr (f ∙ e) ]))
        | inr d ↦ absurd d
      ];
      touched = begun_touched;
      fresh = λ v wv d. d;
      over = begun_over;
      order = λ v u m n d wv lv lu. absurd d;
    }
