-- What a new level of a variable does to the visits and the queue.
use Rattle.std.proofs.Common.{◌≡◌, ◌≢◌, ◌⊎◌, ◌↔◌, inl, inr, ℕ, zero, suc, ◌+◌, ◌<◌, ◌≤◌, List, [], ◌∷◌, Some, not}
use Rattle.std.proofs.Common.{count_by, nat_eq, length, Contains, slice_get, refl, sym, ◌∙◌, ap, subst, arith}
use Rattle.std.proofs.Common.{length-set}
use Rattle.std.proofs.lemmas.Bool.{cases_eq}
use Rattle.std.proofs.lemmas.List.Sums.{sum_by-cons}
use Rattle.std.proofs.lemmas.Option.{none-some, same_Some}
use Rattle.aig_base.specs.declared.level.visits.Visits.{Visits}
use Rattle.aig_base.specs.state.Queue.{Queued, IsQueued, copies}
use Rattle.aig_base.specs.state.Rewires.{SetsLevel, mark}
use Rattle.aig_base.specs.state.Visits.{IsVisited, VisitsAmong}
use Rattle.aig_base.proofs.lists.Gets.{Contains-from_get, get_from_Contains, slice_get-set_same, slice_get-set_other}
use Rattle.aig_base.proofs.rewires.QueueLemmas.{mark_on, mark_off, not_visited, visited_cases, one, one_same, one_other}
use Rattle.aig_base.proofs.rewires.Renewing.{same_cell}
use Rattle.aig_base.proofs.rewires.VisitLemmas.{among_same}

-- visited, and waiting no more
abbrev pub IsDone : Visits → Queued → ℕ → Type 0
IsDone s q v = IsVisited s v × (copies q v ≡ 0)

pub queued_cases : (q : Queued) (v : ℕ) → IsQueued q v ⊎ (copies q v ≡ 0)
queued_cases q v = elim (cases_eq (copies q v) 0) [
  | inl e ↦ inr e
  | inr ne ↦ inl (omega arith)
]

pub done_cases : (s : Visits) (q : Queued) (v : ℕ) → IsDone s q v ⊎ (IsDone s q v → ⊥)
done_cases s q v = elim (visited_cases s v) [
  | inl on ↦ elim (cases_eq (copies q v) 0) [
    | inl e ↦ inl (on, e)
    | inr ne ↦ inr (λ d. ne d.1)
  ]
  | inr off ↦ inr (λ d. not_visited s v off d.0)
]

entry_at : (entries : List (ℕ × ℕ)) (k : ℕ) (e : ℕ × ℕ) → slice_get entries k ≡ Some e
    → 1 ≤ count_by (λ x. nat_eq e.1 x.1) entries
entry_at [] k e at = absurd (none-some e at)
entry_at (x ∷ xs) zero e at =
    let is = sum_by-cons (λ (y : ℕ × ℕ). one e.1 y.1) x xs in
    let here = one_same e.1 x.1 (ap (λ (y : ℕ × ℕ). y.1) (sym (same_Some x e at))) in
    omega arith
entry_at (x ∷ xs) (suc k) e at =
    let is = sum_by-cons (λ (y : ℕ × ℕ). one e.1 y.1) x xs in
    let rest = entry_at xs k e at in
    omega arith

-- a variable with an entry waits
pub queued_from_entry : (q : Queued) (e : ℕ × ℕ) → Contains q.entries e → IsQueued q e.1
queued_from_entry q e h = let (k, at) = get_from_Contains q.entries e h in entry_at q.entries k e at

entry_among : (entries : List (ℕ × ℕ)) (v : ℕ) → 1 ≤ count_by (λ x. nat_eq v x.1) entries
    → (e : ℕ × ℕ) × (k : ℕ) × (slice_get entries k ≡ Some e) × (e.1 ≡ v)
entry_among [] v h = absurd (omega arith)
entry_among (x ∷ xs) v h = elim (cases_eq v x.1) [
  | inl e ↦ (x, 0, refl, sym e)
  | inr ne ↦
      (let is = sum_by-cons (λ (y : ℕ × ℕ). one v y.1) x xs in
      let away = one_other v x.1 ne in
      let (e, k, at, same) = entry_among xs v (omega arith) in
      (e, suc k, at, same))
]

-- a variable that waits has an entry
pub entry_from_queued : (q : Queued) (v : ℕ) → IsQueued q v → (e : ℕ × ℕ) × Contains q.entries e × (e.1 ≡ v)
entry_from_queued q v h =
    let (e, k, at, same) = entry_among q.entries v h in
    (e, Contains-from_get q.entries k e at, same)

module _ (xs : List ℕ) (w level : ℕ) (row row' : List ℕ) (s s' : Visits) (q q' : Queued)
    (h : SetsLevel w level xs row row' s s' q q') where
  pub cell_size : length row' ≡ length row
  cell_size = ap length h.cells ∙ length-set row w level

  pub cell_here : w < length row → slice_get row' w ≡ Some level
  cell_here lt = ap (λ r. slice_get r w) h.cells ∙ slice_get-set_same row w level lt

  pub cell_other : (v : ℕ) → v ≢ w → slice_get row' v ≡ slice_get row v
  cell_other v ne = ap (λ r. slice_get r v) h.cells ∙ slice_get-set_other row w v level ne

  pub among_step : VisitsAmong xs s s'
  among_step = elim (same_cell (slice_get row w) (Some level)) [
    | inl e ↦ subst (VisitsAmong xs s) (sym (h.same e).0) (among_same xs s)
    | inr ne ↦ (h.other ne).among
  ]

  -- what waits and what was visited go together
  pub counts_step : (v : ℕ) → copies q' v + mark s v ≡ copies q v + mark s' v
  counts_step v = elim (same_cell (slice_get row w) (Some level)) [
    | inl e ↦ ap (λ x. copies x v + mark s v) (h.same e).1 ∙ ap (λ x. copies q v + mark x v) (sym (h.same e).0)
    | inr ne ↦ (h.other ne).counts v
  ]

  pub left_step : length q'.entries + count_by not s'.met.items ≡ length q.entries + count_by not s.met.items
  left_step = elim (same_cell (slice_get row w) (Some level)) [
    | inl e ↦
        ap (λ x. length x.entries + count_by not s'.met.items) (h.same e).1
        ∙ ap (λ x. length q.entries + count_by not x.met.items) (h.same e).0
    | inr ne ↦ (h.other ne).left
  ]

  pub capacity_step : q.capacity ≤ q'.capacity
  capacity_step = elim (same_cell (slice_get row w) (Some level)) [
    | inl e ↦ (let same : q'.capacity ≡ q.capacity = ap (λ x. x.capacity) (h.same e).1 in omega arith)
    | inr ne ↦ (h.other ne).capacity
  ]

  pub stays_queued : (v : ℕ) → IsQueued q v → IsQueued q' v
  stays_queued v k =
      let count = counts_step v in
      elim (visited_cases s v) [
        | inl on ↦
            (let before = mark_on s v on in
            let after = mark_on s' v (among_step.kept v on) in
            omega arith)
        | inr off ↦ (let before = mark_off s v off in omega arith)
      ]

  -- what waits now and did not before is one of the list, and was not visited
  pub newly_queued : (v : ℕ) → IsQueued q' v → IsQueued q v
      ⊎ ((slice_get row w ≢ Some level) × Contains xs v)
  newly_queued v k =
      let count = counts_step v in
      elim (queued_cases q v) [
        | inl before ↦ inl before
        | inr none ↦ elim (visited_cases s v) [
          | inl on ↦
              (let m = mark_on s v on in
              let m' = mark_on s' v (among_step.kept v on) in
              absurd (omega arith))
          | inr off ↦ elim (visited_cases s' v) [
            | inr off' ↦
                (let m = mark_off s v off in
                let m' = mark_off s' v off' in
                absurd (omega arith))
            | inl on' ↦ elim (same_cell (slice_get row w) (Some level)) [
              | inl e ↦ absurd (not_visited s v off (subst (λ x. IsVisited x v) (h.same e).0 on'))
              | inr ne ↦ elim (among_step.new v on') [
                | inl on ↦ absurd (not_visited s v off on)
                | inr k ↦ inr (ne, k)
              ]
            ]
          ]
        ]
      ]

  -- each of the list waits, if those that were visited do
  pub list_queued : slice_get row w ≢ Some level → ((v : ℕ) → Contains xs v → IsVisited s v → IsQueued q v)
      → (v : ℕ) → Contains xs v → IsQueued q' v
  list_queued ne listed v k =
      let count = counts_step v in
      elim (visited_cases s v) [
        | inl on ↦ stays_queued v (listed v k on)
        | inr off ↦
            (let m = mark_off s v off in
            let m' = mark_on s' v ((h.other ne).all v k) in
            omega arith)
      ]

  pub done_step : (v : ℕ) → IsDone s' q' v ↔ IsDone s q v
  done_step v =
      let count = counts_step v in (
        λ d. (
            let m' = mark_on s' v d.0 in
            let none = d.1 in
            elim (visited_cases s v) [
              | inl on ↦ (on, let m = mark_on s v on in omega arith)
              | inr off ↦ absurd (let m = mark_off s v off in omega arith)
            ]),
        λ d. (
            let m = mark_on s v d.0 in
            let m' = mark_on s' v (among_step.kept v d.0) in
            let none = d.1 in
            (among_step.kept v d.0, omega arith)),
      )

  pub visited_step : ((v : ℕ) → IsQueued q v → IsVisited s v) → (v : ℕ) → IsQueued q' v → IsVisited s' v
  visited_step met v k =
      let count = counts_step v in
      elim (visited_cases s' v) [
        | inl on ↦ on
        | inr off' ↦ elim (visited_cases s v) [
          | inl on ↦ among_step.kept v on
          | inr off ↦
              (let m = mark_off s v off in
              let m' = mark_off s' v off' in
              among_step.kept v (met v (omega arith)))
        ]
      ]

  pub once_step : ((v : ℕ) → IsQueued q v → IsVisited s v) → ((v : ℕ) → copies q v ≤ 1) → (v : ℕ) → copies q' v ≤ 1
  once_step met once v =
      let count = counts_step v in
      let few = once v in
      elim (visited_cases s v) [
        | inl on ↦
            (let m = mark_on s v on in
            let m' = mark_on s' v (among_step.kept v on) in
            omega arith)
        | inr off ↦
            (let m = mark_off s v off in
            elim (queued_cases q v) [
              | inl k ↦ absurd (not_visited s v off (met v k))
              | inr none ↦ elim (visited_cases s' v) [
                | inl on' ↦ (let m' = mark_on s' v on' in omega arith)
                | inr off' ↦ (let m' = mark_off s' v off' in omega arith)
              ]
            ])
      ]
