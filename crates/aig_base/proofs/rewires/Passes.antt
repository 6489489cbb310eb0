-- The pass that renews levels, as the code has it: visits, a queue, and a row of levels.
use Rattle.std.proofs.Common.{◌≡◌, ◌≢◌, ◌⊎◌, ◌↔◌, inl, inr, ℕ, ◌+◌, ◌-◌, ◌^◌, ◌<◌, ◌≤◌, suc, [], ◌∷◌, List, Some, not}
use Rattle.std.proofs.Common.{nat_eq, count_by, length, get_or, All, Contains, IsPermutation, slice_get, refl, sym, ◌∙◌}
use Rattle.std.proofs.Common.{ap, subst, arith}
use Rattle.std.specs.Vec.{vec_capacity}
use Rattle.std.proofs.lemmas.Bool.{cases_eq}
use Rattle.std.proofs.lemmas.List.Elements.{All-contains, Contains-get_or}
use Rattle.std.proofs.lemmas.List.Sorted.{Contains-permutation, length_permutation, IsPermutation-sym}
use Rattle.std.proofs.lemmas.List.Sums.{count_by-le-length}
use Rattle.std.proofs.lemmas.Option.{slice_get-get_or, get_or_from_slice_get}
use Rattle.aig_parts.specs.declared.gate.Gate.{Gate}
use Rattle.aig_parts.specs.declared.raw.Raw.{Raw}
use Rattle.aig_base.specs.declared.level.visits.Visits.{Visits}
use Rattle.aig_base.specs.Changes.{with_gate}
use Rattle.aig_base.specs.Circuit.{IsCircuit}
use Rattle.aig_base.specs.state.Descent.{level_above}
use Rattle.aig_base.specs.Grounded as by
use Rattle.aig_base.specs.Grounded.{IsAcyclic, Level}
use Rattle.aig_base.specs.Levels.{AreLevels}
use Rattle.aig_parts.specs.Formed.{limit}
use Rattle.aig_parts.specs.Literal.{variable}
use Rattle.aig_base.specs.state.Queue.{IsEmptyQueue, Queued, IsQueued, copies}
use Rattle.aig_base.specs.Readers.{AreReaders, ReaderLists, list_of}
use Rattle.aig_base.specs.state.Rewires.{HoldsLevel, IsInFanOut, Renewing, RenewsAt, SetsLevel}
use Rattle.aig_base.specs.Sections.{IsDefined, IsGate, IsLeftSide}
use Rattle.aig_base.specs.state.Visits.{AreNoVisits, AreVisits, IsVisited}
use Rattle.aig_base.specs.state.Worklists.{CanWait}
use Rattle.aig_base.proofs.rewires.FanOutLemmas.{acyclic_from_before, changed_level, side_level}
use Rattle.aig_base.proofs.circuits.Defined.{Grounded-of_defined}
use Rattle.aig_base.proofs.circuits.Gates.{IsDefinition-of_gate, IsGate-of_gate, gate_in_range, sides_in_range}
use Rattle.aig_base.proofs.levels.LevelBound.{level_bound}
use Rattle.aig_base.proofs.rewires.LevelSteps.{IsDone, among_step, capacity_step, cell_here, cell_other, cell_size}
use Rattle.aig_base.proofs.rewires.LevelSteps.{done_cases}
use Rattle.aig_base.proofs.rewires.LevelSteps.{done_step, entry_from_queued, left_step, list_queued, newly_queued}
use Rattle.aig_base.proofs.rewires.LevelSteps.{once_step}
use Rattle.aig_base.proofs.rewires.LevelSteps.{queued_cases, queued_from_entry, stays_queued, visited_step}
use Rattle.aig_base.proofs.fan_outs.ListedReaders.{reads}
use Rattle.aig_base.proofs.levels.OneLevel.{level_of, same_level}
use Rattle.aig_base.proofs.rewires.QueueLemmas.{copies_popped, one_other, one_same}
use Rattle.aig_base.proofs.rewires.Renewing.{begun, ended, gate_level, same_cell, side_holds, stepped, t_level}
use Rattle.aig_base.proofs.rewires.RenewingSame.{renewing_same, renews_at}
use Rattle.aig_base.proofs.rewires.Rewiring.{with_gate-circuit}
use Rattle.aig_base.proofs.rewires.VisitLemmas.{visits_none}
use Rattle.aig_base.proofs.checks.Walks.{kept, the_gate}

-- the pass with its visits and its queue: what waits was visited, once, with its level of before
pub record IsPass (raw : Raw) (lhs r0 r1 : ℕ) (old row : List ℕ) (s : Visits) (q : Queued) : Type 0 where
  pub renewing : Renewing raw lhs r0 r1 old row (IsQueued q) (IsDone s q)
  pub visits : AreVisits s
  pub met : (v : ℕ) → IsQueued q v → IsVisited s v
  pub once : (v : ℕ) → copies q v ≤ 1
  pub ranks : (e : ℕ × ℕ) → Contains q.entries e → (m : ℕ) → slice_get old e.1 ≡ Some m → e.0 ≡ 2 ^ 32 - 1 - m
  pub room : length q.entries + count_by not s.met.items ≤ q.capacity
  pub size : length s.met.items ≡ length old
  pub fits : length old ≤ vec_capacity s.list
  pub fits_queue : length old ≤ q.capacity

module _ (raw : Raw) (c : IsCircuit raw) (lhs r0 r1 : ℕ) (is_gate : IsLeftSide raw lhs) (d0 : IsDefined raw
    (variable r0))
    (d1 : IsDefined raw (variable r1)) (never0 : IsInFanOut raw (variable lhs) (variable r0) → ⊥)
    (never1 : IsInFanOut raw (variable lhs) (variable r1) → ⊥) (old : List ℕ) (are : AreLevels raw old)
    (r : ReaderLists) (readers : AreReaders raw r) where
  abbrev new : Raw
  new = with_gate raw lhs r0 r1

  pub acyclic_new : IsAcyclic (with_gate raw lhs r0 r1)
  acyclic_new = acyclic_from_before raw c.sound lhs r0 r1 is_gate c.acyclic d0 d1 never0 never1

  circuit_new : IsCircuit new
  circuit_new = with_gate-circuit lhs r0 r1 raw c d0 d1 acyclic_new

  low : {v n : ℕ} → Level new v n → n ≤ limit
  low l =
      let bound = level_bound new circuit_new.sound l in
      let most = c.formed.counts.max_var in
      omega arith

  low_old : {v n : ℕ} → Level raw v n → n < 2 ^ 32
  low_old l =
      let bound = level_bound raw c.sound l in
      let most = c.formed.counts.max_var in
      omega arith

  -- two levels are those of two variables
  over_apart : (v w m n : ℕ) → Level raw v m → Level raw w n → n < m → v ≢ w
  over_apart v w m n lv lw lt e =
      let same : m ≡ n = same_level c.sound (subst (λ x. Level raw x m) e lv) lw in
      omega arith

  pub gate_within : variable lhs < length old
  gate_within =
      let (g, q, at, is) = the_gate raw c.sound lhs r0 r1 is_gate in
      let range = gate_in_range raw c.sound (variable g.lhs) (IsGate-of_gate raw q g at) in
      let size = are.size in
      let same : variable g.lhs ≡ variable lhs = ap variable is in
      omega arith

  -- the level of a new side
  side_at : (z : ℕ) → IsDefined raw z → Level raw z (get_or old z 0)
  side_at z d =
      let (n, level) = level_of (Grounded-of_defined raw c.acyclic z d) in
      subst (Level raw z) (sym (get_or_from_slice_get old z n 0 (are.each z n level))) level

  abbrev changed : Gate
  changed = record { lhs = lhs; rhs0 = r0; rhs1 = r1 }

  pub changed_fits : level_above old changed ≤ limit
  changed_fits =
      low (changed_level raw c.sound lhs r0 r1 is_gate c.acyclic d0 d1 never0 never1 (get_or old (variable r0) 0)
      (get_or old (variable r1) 0) (side_at (variable r0) d0) (side_at (variable r1) d1))

  pub changed_low : level_above old changed < length old
  changed_low =
      let bound = level_bound new circuit_new.sound (changed_level raw c.sound lhs r0 r1 is_gate c.acyclic d0 d1 never0
      never1 (get_or old (variable r0) 0) (get_or old (variable r1) 0) (side_at (variable r0) d0)
      (side_at (variable r1) d1)) in
      omega (arith, are.size)

  -- the readers of a variable can wait in a row that has a level for each gate
  readers_wait : (row : List ℕ) (w : ℕ) → w ≤ raw.max_var → length row ≡ length old
      → ((k : ℕ) (g : Gate) → slice_get raw.gates k ≡ Some g → get_or row (variable g.lhs) 0 ≤ raw.max_var)
      → All (CanWait row) (list_of r w)
  readers_wait row w le size low i d lt =
      let (k, g, at, side, is) = reads raw r readers w le (get_or (list_of r w) i d) (Contains-get_or (list_of r w) i d lt) in
      let range = gate_in_range raw c.sound (variable g.lhs) (IsGate-of_gate raw k g at) in
      let left = IsDefinition-of_gate raw c.sound k g at in
      let level = low k g at in
      subst (CanWait row) is (record {
        positive = omega (arith, left.1);
        inside = omega (arith, are.size);
        low = omega (arith, are.size);
      })

  old_cell : (row : List ℕ) (k : ℕ) (g : Gate) → slice_get raw.gates k ≡ Some g
      → slice_get row (variable g.lhs) ≡ slice_get old (variable g.lhs) → get_or row (variable g.lhs) 0 ≤ raw.max_var
  old_cell row k g at same =
      let (m, l) = gate_level raw c.sound c.acyclic lhs r0 r1 is_gate old are k g at in
      let cell = get_or_from_slice_get row (variable g.lhs) m 0 (same ∙ are.each (variable g.lhs) m l) in
      let bound = level_bound raw c.sound l in
      omega arith

  new_cell : (row : List ℕ) (v : ℕ) → HoldsLevel new row v → get_or row v 0 ≤ raw.max_var
  new_cell row v h =
      let cell = get_or_from_slice_get row v h.level 0 h.cell in
      let bound = level_bound new circuit_new.sound h.has in
      omega arith

  pub changed_wait : All (CanWait old) (list_of r (variable lhs))
  changed_wait =
      readers_wait old (variable lhs) (let lt = gate_within in omega (arith, are.size)) refl
      (λ k g at. old_cell old k g at refl)

  -- a step of the pass, as the code makes it
  module _ (w level : ℕ) (row row' : List ℕ) (s s' : Visits) (q q' : Queued) (queued : ℕ → Type 0) (le : w ≤ raw.max_var)
      (lt : w < length row) (h : SetsLevel w level (list_of r w) row row' s s' q q')
      (before : (v : ℕ) → queued v → (v ≡ w) ⊎ IsQueued q v) (after : (v : ℕ) → IsQueued q v → queued v × (v ≢ w))
      (listed : (v : ℕ) → Contains (list_of r w) v → IsVisited s v → IsQueued q v) where
    step : RenewsAt raw w level row row' queued (IsQueued q')
    step = renews_at raw r readers w le level row row' queued (IsQueued q')
        (cell_size (list_of r w) w level row row' s s' q q' h) (cell_here (list_of r w) w level row row' s s' q q' h lt)
        (cell_other (list_of r w) w level row row' s s' q q' h)
        (λ v k. elim (before v k) [
          | inl e ↦ inl e
          | inr k' ↦ inr (stays_queued (list_of r w) w level row row' s s' q q' h v k')
        ])
        (λ ne. list_queued (list_of r w) w level row row' s s' q q' h ne listed)
        (λ v k. elim (newly_queued (list_of r w) w level row row' s s' q q' h v k) [
          | inl k' ↦ inl (after v k')
          | inr p ↦ inr p
        ])

  -- what waits has its level of before
  listed_cell : (row : List ℕ) (queued done : ℕ → Type 0) → Renewing raw lhs r0 r1 old row queued done → (v : ℕ)
      → queued v
      → slice_get row v ≡ slice_get old v
  listed_cell row queued done n v k =
      let (q, g, u, at, side, is, known, apart) = n.touched v (inl k) in
      let (m, l) = gate_level raw c.sound c.acyclic lhs r0 r1 is_gate old are q g at in
      let (t, lt) = t_level raw c.sound c.acyclic lhs r0 r1 is_gate old are in
      let over = n.over v m t k (subst (λ x. Level raw x m) is l) lt in
      let ne = over_apart (variable g.lhs) (variable lhs) m t l lt over in
      subst (λ x. slice_get row x ≡ slice_get old x) is
      (n.others q g at ne (λ d. n.fresh v k (subst done is d)))

  -- the pass goes on, where the new entries are those of the list
  module _ (w level : ℕ) (row row' : List ℕ) (s s' : Visits) (q q' : Queued)
      (h : SetsLevel w level (list_of r w) row row' s s' q q') (visits : AreVisits s)
      (met : (v : ℕ) → IsQueued q v → IsVisited s v) (once : (v : ℕ) → copies q v ≤ 1)
      (ranks : (e : ℕ × ℕ) → Contains q.entries e → (m : ℕ) → slice_get old e.1 ≡ Some m → e.0 ≡ 2 ^ 32 - 1 - m)
      (room : length q.entries + count_by not s.met.items ≤ q.capacity) (size : length s.met.items ≡ length old)
      (fits : length old ≤ vec_capacity s.list) (fits_queue : length old ≤ q.capacity)
      (renewing : Renewing raw lhs r0 r1 old row' (IsQueued q') (IsDone s' q')) where
    ranks_now : (e : ℕ × ℕ) → Contains q'.entries e → (m : ℕ) → slice_get old e.1 ≡ Some m → e.0 ≡ 2 ^ 32 - 1 - m
    ranks_now e k m at = elim (same_cell (slice_get row w) (Some level)) [
      | inl same ↦ ranks e (subst (λ (x : Queued). Contains x.entries e) (h.same same).1 k) m at
      | inr ne ↦ elim ((h.other ne).listed e k) [
        | inl k' ↦ ranks e k' m at
        | inr p ↦
            (let cell = listed_cell row' (IsQueued q') (IsDone s' q') renewing e.1 (queued_from_entry q' e k) in
            let is : get_or row' e.1 0 ≡ m = get_or_from_slice_get row' e.1 m 0 (cell ∙ at) in
            ap (λ (x : ℕ × ℕ). x.0) p.0 ∙ ap (λ l. 2 ^ 32 - 1 - l) is)
      ]
    ]

    pass_on : IsPass raw lhs r0 r1 old row' s' q'
    pass_on = record {
      renewing = renewing;
      visits = (among_step (list_of r w) w level row row' s s' q q' h).visits visits;
      met = visited_step (list_of r w) w level row row' s s' q q' h met;
      once = once_step (list_of r w) w level row row' s s' q q' h met once;
      ranks = ranks_now;
      room = (
          let left = left_step (list_of r w) w level row row' s s' q q' h in
          let more = capacity_step (list_of r w) w level row row' s s' q q' h in
          omega arith);
      size = (among_step (list_of r w) w level row row' s s' q q' h).size ∙ size;
      fits = (let same = (among_step (list_of r w) w level row row' s s' q q' h).capacity in omega arith);
      fits_queue = (let more = capacity_step (list_of r w) w level row row' s s' q q' h in omega arith);
    }

  -- nothing waits in an empty queue
  pub none_queued : (q : Queued) → q.entries ≡ [] → (v : ℕ) → copies q v ≡ 0
  none_queued q e v = ap (λ es. count_by (λ (x : ℕ × ℕ). nat_eq v x.1) es) e

  -- the pass begins with the changed gate
  module _ (row : List ℕ) (s s' : Visits) (q q' : Queued) (no_visits : AreNoVisits (length old) s)
      (empty : IsEmptyQueue (length old) q)
      (h : SetsLevel (variable lhs) (level_above old changed) (list_of r (variable lhs)) old row s s' q q') where
    never_queued : (v : ℕ) → IsQueued q v → ⊥
    never_queued v k = let no = none_queued q empty.empty v in absurd (omega arith)

    first_step : RenewsAt raw (variable lhs) (level_above old changed) old row (λ v. ⊥) (IsQueued q')
    first_step =
        let within = gate_within in
        let size = are.size in
        step (variable lhs) (level_above old changed) old row s s' q q' (λ v. ⊥) (omega arith) within h
        (λ v k. absurd k)
        (λ v k. absurd (never_queued v k)) (λ v k on. absurd (no_visits.unmet v on))

    pub passed_first : IsPass raw lhs r0 r1 old row s' q'
    passed_first =
        pass_on (variable lhs) (level_above old changed) old row s s' q q' h (visits_none (length old) s no_visits)
        (λ v k. absurd (never_queued v k)) (λ v. (let no = none_queued q empty.empty v in omega arith))
        (λ e k m at. absurd (never_queued e.1 (queued_from_entry q e k)))
        (
        let size : length q.entries ≡ 0 = ap length empty.empty in
        let most = count_by-le-length not s.met.items in
        let marks = no_visits.marks in
        let room = empty.room in
        omega arith)
        no_visits.marks no_visits.room empty.room
        (renewing_same raw lhs r0 r1 old row (IsQueued q') (IsQueued q') (λ v. ⊥) (IsDone s' q') (λ v. (λ k. k, λ k. k))
        (λ v. (
          λ k. absurd k,
          λ d. no_visits.unmet v ((done_step (list_of r (variable lhs)) (variable lhs)
              (level_above old changed) old row s s' q q' h v).0 d).0,
        ))
        (begun raw c.sound c.acyclic lhs r0 r1 is_gate old are d0 d1 never0 never1 (get_or old (variable r0) 0)
        (get_or old (variable r1) 0) (side_at (variable r0) d0) (side_at (variable r1) d1) row
        (IsQueued q') first_step))

  -- a variable of the least level is taken out of the queue
  module _ (row : List ℕ) (s : Visits) (q q1 : Queued) (h : IsPass raw lhs r0 r1 old row s q) (rank w : ℕ)
      (p : IsPermutation q.entries ((rank, w) ∷ q1.entries)) (least : All (λ e. e.0 ≤ rank) q1.entries)
      (same : q1.capacity ≡ q.capacity) where
    w_queued : IsQueued q w
    w_queued =
        let count = copies_popped w rank w q q1 p in
        let here = one_same w w refl in
        omega arith

    -- it is the variable of a gate
    pub popped_gate : IsGate raw w
    popped_gate =
        let (k, g, u, at, side, is, known, apart) = h.renewing.touched w (inl w_queued) in
        subst (IsGate raw) is (IsGate-of_gate raw k g at)

    pub popped_within : w < length row
    popped_within =
        let range = gate_in_range raw c.sound w popped_gate in
        let size = are.size in
        let long = h.renewing.size in
        omega arith

    pub popped_room : length q1.entries + count_by not s.met.items ≤ q1.capacity
    popped_room =
        let long = length_permutation q.entries ((rank, w) ∷ q1.entries) p in
        let room = h.room in
        omega arith

    pub popped_size : length q1.entries + 1 ≡ length q.entries
    popped_size = let long = length_permutation q.entries ((rank, w) ∷ q1.entries) p in omega arith

    pub popped_met : (v : ℕ) → IsQueued q1 v → IsVisited s v
    popped_met v i = (let count = copies_popped v rank w q q1 p in h.met v (omega arith))

    pub popped_wide : length row ≤ q1.capacity
    popped_wide = (let long = h.renewing.size in let fits = h.fits_queue in omega arith)

    row_cell : (k : ℕ) (g : Gate) → slice_get raw.gates k ≡ Some g → get_or row (variable g.lhs) 0 ≤ raw.max_var
    row_cell k g at = elim (cases_eq (variable g.lhs) (variable lhs)) [
      | inl e ↦ subst (λ v. get_or row v 0 ≤ raw.max_var) (sym e) (new_cell row (variable lhs) h.renewing.changed)
      | inr ne ↦ elim (done_cases s q (variable g.lhs)) [
        | inl d ↦ new_cell row (variable g.lhs) (h.renewing.evaluated (variable g.lhs) d)
        | inr not_done ↦ old_cell row k g at (h.renewing.others k g at ne not_done)
      ]
    ]

    pub popped_wait : All (CanWait row) (list_of r w)
    popped_wait = readers_wait row w (gate_in_range raw c.sound w popped_gate) h.renewing.size row_cell

    back : (e : ℕ × ℕ) → Contains q1.entries e → Contains q.entries e
    back e k =
        let (i, lt, at) = k in
        Contains-permutation ((rank, w) ∷ q1.entries) q.entries e (IsPermutation-sym q.entries
        ((rank, w) ∷ q1.entries) p)
        (suc i, omega arith, at)

    here_entry : Contains q.entries (rank, w)
    here_entry =
        Contains-permutation ((rank, w) ∷ q1.entries) q.entries (rank, w)
        (IsPermutation-sym q.entries ((rank, w) ∷ q1.entries) p) (0, omega arith, refl)

    -- no other that waits has a level below
    high : (n : ℕ) → Level raw w n → (v m : ℕ) → IsQueued q v → Level raw v m → n ≤ m
    high n l v m k lv = elim (cases_eq v w) [
      | inl e ↦ (let one : m ≡ n = same_level c.sound (subst (λ x. Level raw x m) e lv) l in omega arith)
      | inr ne ↦
          (let count = copies_popped v rank w q q1 p in
          let away = one_other v w ne in
          let (e, there, is) = entry_from_queued q1 v (omega arith) in
          let below : e.0 ≤ rank = All-contains (λ (x : ℕ × ℕ). x.0 ≤ rank) q1.entries e least there in
          let e_rank = h.ranks e (back e there) m (ap (slice_get old) is ∙ are.each v m lv) in
          let w_rank : rank ≡ 2 ^ 32 - 1 - n = h.ranks (rank, w) here_entry n (are.each w n l) in
          let low_n = low_old l in
          let low_m = low_old lv in
          omega arith)
    ]

    w_level : (n : ℕ) × Level raw w n
    w_level = level_of (c.acyclic w popped_gate)

    -- its gate, with its new level
    module _ (k : ℕ) (g : Gate) (at : slice_get raw.gates k ≡ Some g) (is : variable g.lhs ≡ w) where
      g_queued : IsQueued q (variable g.lhs)
      g_queued = subst (IsQueued q) (sym is) w_queued

      g_level : Level raw (variable g.lhs) (w_level.0)
      g_level = let (n, l) = w_level in subst (λ x. Level raw x n) (sym is) l

      g_high : (v m : ℕ) → IsQueued q v → Level raw v m → w_level.0 ≤ m
      g_high = let (n, l) = w_level in high n l

      pub popped_sides : (variable g.rhs0 < length row) × (variable g.rhs1 < length row)
      popped_sides =
          let (in0, in1) = sides_in_range raw c.sound k g at in
          let size = are.size in
          let long = h.renewing.size in
          (omega arith, omega arith)

      holds0 : HoldsLevel new row (variable g.rhs0)
      holds0 = side_holds raw c.sound c.acyclic lhs r0 r1 is_gate old are row (IsQueued q) (IsDone s q) (done_cases s q)
          h.renewing k g (variable g.rhs0) (w_level.0) at g_level g_high (inl refl)

      holds1 : HoldsLevel new row (variable g.rhs1)
      holds1 = side_holds raw c.sound c.acyclic lhs r0 r1 is_gate old are row (IsQueued q) (IsDone s q) (done_cases s q)
          h.renewing k g (variable g.rhs1) (w_level.0) at g_level g_high (inr refl)

      not_changed : variable g.lhs ≢ variable lhs
      not_changed e =
          let (t, lt) = t_level raw c.sound c.acyclic lhs r0 r1 is_gate old are in
          let over = h.renewing.over (variable g.lhs) (w_level.0) t g_queued g_level lt in
          over_apart (variable g.lhs) (variable lhs) (w_level.0) t g_level lt over e

      pub popped_fits : level_above row g ≤ limit
      popped_fits =
          let e0 : get_or row (variable g.rhs0) 0 ≡ holds0.level =
          get_or_from_slice_get row (variable g.rhs0) holds0.level 0 holds0.cell in
          let e1 : get_or row (variable g.rhs1) 0 ≡ holds1.level =
          get_or_from_slice_get row (variable g.rhs1) holds1.level 0 holds1.cell in
          let below = low (by.Level.gate k g holds0.level holds1.level
          (kept raw c.sound lhs r0 r1 is_gate k g at not_changed) holds0.has holds1.has) in
          omega arith

      pub popped_low : level_above row g < length row
      popped_low =
          let e0 : get_or row (variable g.rhs0) 0 ≡ holds0.level =
          get_or_from_slice_get row (variable g.rhs0) holds0.level 0 holds0.cell in
          let e1 : get_or row (variable g.rhs1) 0 ≡ holds1.level =
          get_or_from_slice_get row (variable g.rhs1) holds1.level 0 holds1.cell in
          let bound = level_bound new circuit_new.sound (by.Level.gate k g holds0.level holds1.level
          (kept raw c.sound lhs r0 r1 is_gate k g at not_changed) holds0.has holds1.has) in
          omega (arith, are.size, h.renewing.size)

      module _ (row' : List ℕ) (s' : Visits) (q' : Queued)
          (set : SetsLevel w (level_above row g) (list_of r w) row row' s s' q1 q') where
        w_low : w ≤ raw.max_var
        w_low = gate_in_range raw c.sound w popped_gate

        -- a reader of the variable is not done
        reader_queued : (v : ℕ) → Contains (list_of r w) v → IsVisited s v → IsQueued q1 v
        reader_queued v i on =
            let (j, z, here, side, eq) = reads raw r readers w w_low v i in
            let (m, lz) = gate_level raw c.sound c.acyclic lhs r0 r1 is_gate old are j z here in
            let (n, lw, below) = side_level c.sound lz j z w here side refl in
            let lv : Level raw v m = subst (λ x. Level raw x m) eq lz in
            let ne = over_apart v w m n lv lw below in
            let count = copies_popped v rank w q q1 p in
            let away = one_other v w ne in
            elim (queued_cases q v) [
              | inl still ↦ omega arith
              | inr none ↦ absurd (let le = h.renewing.order v w m n (on, none) w_queued lv lw in omega arith)
            ]

        stepped_at : RenewsAt raw w (level_above row g) row row' (IsQueued q) (IsQueued q')
        stepped_at =
            step w (level_above row g) row row' s s' q1 q' (IsQueued q) w_low popped_within set
            (λ v i. elim (cases_eq v w) [
              | inl e ↦ inl e
              | inr ne ↦
                  (let count = copies_popped v rank w q q1 p in
                  let away = one_other v w ne in
                  inr (omega arith))
            ])
            (λ v i. (
            let count = copies_popped v rank w q q1 p in
            let few = h.once v in
            (omega arith, λ e. (let here = one_same v w e in omega arith))))
            reader_queued

        done_now : (v : ℕ) → (v ≡ variable g.lhs) ⊎ IsDone s q v ↔ IsDone s' q' v
        done_now v =
            let same_done = done_step (list_of r w) w (level_above row g) row row' s s' q1 q' set v in
            let count = copies_popped v rank w q q1 p in
            let few = h.once v in (
              λ d. elim d [
                | inl e ↦
                    (let here = one_same v w (e ∙ is) in
                    same_done.1 (subst (IsVisited s) (sym (e ∙ is)) (h.met w w_queued), omega arith))
                | inr d0 ↦ (let none = d0.1 in same_done.1 (d0.0, omega arith))
              ],
              λ d. (
                  let (on, none) = same_done.0 d in
                  elim (cases_eq v w) [
                    | inl e ↦ inl (e ∙ sym is)
                    | inr ne ↦ (let away = one_other v w ne in inr (on, omega arith))
                  ]),
            )

        pub passed_more : IsPass raw lhs r0 r1 old row' s' q'
        passed_more =
            let (in0, in1) = popped_sides in
            pass_on w (level_above row g) row row' s s' q1 q' set h.visits
            popped_met
            (λ v. (let count = copies_popped v rank w q q1 p in let few = h.once v in omega arith))
            (λ e i m cell. h.ranks e (back e i) m cell)
            popped_room h.size h.fits (let f = h.fits_queue in omega arith)
            (renewing_same raw lhs r0 r1 old row' (IsQueued q') (IsQueued q') (λ v. (v ≡ variable g.lhs) ⊎ IsDone s q v)
            (IsDone s' q') (λ v. (λ i. i, λ i. i)) done_now
            (stepped raw c.sound c.acyclic lhs r0 r1 is_gate old are row (IsQueued q) (IsDone s q)
            (done_cases s q) h.renewing
            k g at g_queued (w_level.0) g_level g_high (get_or row (variable g.rhs0) 0) (get_or row (variable g.rhs1) 0)
            (slice_get-get_or row (variable g.rhs0) 0 in0) (slice_get-get_or row (variable g.rhs1) 0 in1) row'
            (IsQueued q')
            (subst (λ x. RenewsAt raw x (level_above row g) row row' (IsQueued q) (IsQueued q')) (sym is) stepped_at)))

  -- the pass ends when nothing waits
  pub passed_all : (row : List ℕ) (s : Visits) (q : Queued) → IsPass raw lhs r0 r1 old row s q → q.entries ≡ []
      → AreLevels (with_gate raw lhs r0 r1) row
  passed_all row s q h none =
      ended raw c.sound c.acyclic lhs r0 r1 is_gate old are row (IsQueued q) (IsDone s q) (done_cases s q) h.renewing
      circuit_new.sound (λ v k. (let no = none_queued q none v in absurd (omega arith)))
