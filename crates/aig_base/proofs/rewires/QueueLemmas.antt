-- What a variable that is queued does to the visits and the queue.
use Rattle.std.proofs.Common.{◌≡◌, ◌≢◌, ◌⊎◌, inl, inr, ℕ, ◌+◌, ◌≤◌, List, [], ◌∷◌, ◌++◌, false, not, cond, nat_eq}
use Rattle.std.proofs.Common.{count_by, length, get_or, Contains, IsPermutation, refl, sym, ◌∙◌, ap, subst}
use Rattle.std.proofs.Common.{arith}
use Rattle.std.proofs.lemmas.Bool.{cases_eq, cases_Bool, eq-eqb, ne_eqb, false≢true}
use Rattle.std.proofs.lemmas.List.Elements.{Contains-append_left, Contains-append_right, Contains-push_cases}
use Rattle.std.proofs.lemmas.List.Sorted.{Contains-permutation, length_permutation, IsPermutation-sym, sum_by_pushed}
use Rattle.std.proofs.lemmas.List.Sorted.{sum_by_popped}
use Rattle.std.proofs.lemmas.List.Sums.{count_by-le-length}
use Rattle.aig_base.specs.declared.level.visits.Visits.{Visits}
use Rattle.aig_base.specs.declared.level.worklist.Worklist.{Worklist}
use Rattle.aig_base.specs.state.Queue.{Queued, copies, entry}
use Rattle.aig_base.specs.state.Rewires.{Queues, mark}
use Rattle.aig_base.specs.state.Visits.{IsVisited, VisitsAmong}
use Rattle.aig_base.specs.state.Worklists.{HasRoom, IsIdle}
use Rattle.aig_base.proofs.lists.Positions.{Contains-cons}
use Rattle.aig_base.proofs.checks.Walks.{only_element}
use Rattle.aig_base.proofs.rewires.VisitLemmas.{visits_none}

pub mark_on : (s : Visits) (v : ℕ) → IsVisited s v → mark s v ≡ 1
mark_on s v h = rw h refl

pub mark_off : (s : Visits) (v : ℕ) → get_or s.met.items v false ≡ false → mark s v ≡ 0
mark_off s v h = rw h refl

-- a variable is visited or it is not
pub visited_cases : (s : Visits) (v : ℕ) → IsVisited s v ⊎ (get_or s.met.items v false ≡ false)
visited_cases s v = cases_Bool (get_or s.met.items v false)

pub not_visited : (s : Visits) (v : ℕ) → get_or s.met.items v false ≡ false → IsVisited s v → ⊥
not_visited s v off on = false≢true (sym off ∙ on)

mark_same : (s s' : Visits) (v : ℕ) → (IsVisited s v → IsVisited s' v) → (IsVisited s' v → IsVisited s v) → mark s v
    ≡ mark s' v
mark_same s s' v f g = elim (visited_cases s v) [
  | inl on ↦ mark_on s v on ∙ sym (mark_on s' v (f on))
  | inr off ↦ elim (visited_cases s' v) [
    | inl on ↦ absurd (not_visited s v off (g on))
    | inr off' ↦ mark_off s v off ∙ sym (mark_off s' v off')
  ]
]

-- 1 where the two are one variable
abbrev pub one : ℕ → ℕ → ℕ
one u v = cond (nat_eq u v) 1 0

pub one_same : (u v : ℕ) → u ≡ v → one u v ≡ 1
one_same u v e = rw (eq-eqb u v e) refl

pub one_other : (u v : ℕ) → u ≢ v → one u v ≡ 0
one_other u v ne = rw (ne_eqb u v ne) refl

pub copies_pushed : (u level v : ℕ) (q q' : Queued) → IsPermutation (entry level v ∷ q.entries) q'.entries
    → copies q' u ≡ one u v + copies q u
copies_pushed u level v q q' p = sum_by_pushed (λ (e : ℕ × ℕ). one u e.1) (entry level v) q.entries q'.entries p

pub copies_popped : (u rank v : ℕ) (q q' : Queued) → IsPermutation q.entries ((rank, v) ∷ q'.entries)
    → copies q' u + one u v ≡ copies q u
copies_popped u rank v q q' p = sum_by_popped (λ (e : ℕ × ℕ). one u e.1) (rank, v) q.entries q'.entries p

module _ (levels : List ℕ) (v level : ℕ) (s s' : Visits) (q q' : Queued) (off : get_or s.met.items v false ≡ false)
    (a : VisitsAmong (v ∷ []) s s') (on : IsVisited s' v) (fewer : count_by not s'.met.items + 1
    ≡ count_by not s.met.items)
    (is : level ≡ get_or levels v 0) (p : IsPermutation (entry level v ∷ q.entries) q'.entries)
    (more : q.capacity ≤ q'.capacity) where
  counts_new : (u : ℕ) → copies q' u + mark s u ≡ copies q u + mark s' u
  counts_new u =
      let pushed = copies_pushed u level v q q' p in
      elim (cases_eq u v) [
        | inl e ↦
            (let here = one_same u v e in
            let before : mark s u ≡ 0 = mark_off s u (ap (λ x. get_or s.met.items x false) e ∙ off) in
            let after : mark s' u ≡ 1 = mark_on s' u (ap (λ x. get_or s'.met.items x false) e ∙ on) in
            omega arith)
        | inr ne ↦
            (let here = one_other u v ne in
            let same : mark s u ≡ mark s' u = mark_same s s' u (a.kept u) (λ h. elim (a.new u h) [
              | inl m ↦ m
              | inr k ↦ absurd (ne (sym (only_element v u k)))
            ]) in
            omega arith)
      ]

  listed_new : (e : ℕ × ℕ) → Contains q'.entries e
      → Contains q.entries e
      ⊎ ((e ≡ entry (get_or levels e.1 0) e.1) × Contains (v ∷ []) e.1 × (IsVisited s e.1 → ⊥))
  listed_new e h =
      elim (Contains-cons (entry level v) q.entries e
      (Contains-permutation q'.entries (entry level v ∷ q.entries) e
      (IsPermutation-sym (entry level v ∷ q.entries) q'.entries p) h)) [
        | inl same ↦
            (let what : ℕ × ℕ → Type 0 = λ x. (x ≡ entry (get_or levels x.1 0) x.1) × Contains (v ∷ []) x.1
            × (IsVisited s x.1 → ⊥) in
            inr (subst what (sym same) (ap (λ l. entry l v) is, (0, omega arith, refl), not_visited s v off)))
        | inr k ↦ inl k
      ]

  pub queued_new : Queues (v ∷ []) levels s s' q q'
  queued_new = record {
    among = a;
    all = λ u h. subst (IsVisited s') (only_element v u h) on;
    counts = counts_new;
    listed = listed_new;
    left = (let long = length_permutation (entry level v ∷ q.entries) q'.entries p in omega arith);
    capacity = more;
  }

pub queues_more : (xs levels : List ℕ) (v : ℕ) (s s' s'' : Visits) (q q' q'' : Queued) → VisitsAmong (xs
    ++ v ∷ []) s s''
    → Queues xs levels s s' q q' → Queues (v ∷ []) levels s' s'' q' q'' → Queues (xs ++ v ∷ []) levels s s'' q q''
queues_more xs levels v s s' s'' q q' q'' among a b = record {
  among = among;
  all = λ u h. elim (Contains-push_cases xs v u h) [
    | inl k ↦ b.among.kept u (a.all u k)
    | inr e ↦ subst (IsVisited s'') e (b.all v (0, omega arith, refl))
  ];
  counts = λ u. (let first = a.counts u in let second = b.counts u in omega arith);
  listed = λ e h. elim (b.listed e h) [
    | inl k ↦ elim (a.listed e k) [
      | inl k' ↦ inl k'
      | inr w ↦ inr (w.0, Contains-append_left xs (v ∷ []) e.1 w.1, w.2)
    ]
    | inr w ↦ inr (w.0, Contains-append_right xs (v ∷ []) e.1 w.1, λ m. w.2 (a.among.kept e.1 m))
  ];
  left = b.left ∙ a.left;
  capacity = omega (arith, a.capacity, b.capacity);
}

-- an idle worklist has room for each variable
pub idle_room : (size : ℕ) (w : Worklist) → IsIdle size w → HasRoom size w
idle_room size w idle = record {
  marks = idle.visits.marks;
  visits = visits_none size w.visits idle.visits;
  queue = (
      let none : length w.queue.entries ≡ 0 = ap length idle.queue.empty in
      let most = count_by-le-length not w.visits.met.items in
      let marks = idle.visits.marks in
      let room = idle.queue.room in
      omega arith);
  wide = idle.queue.room;
  met = λ v k. (
      let none : copies w.queue v ≡ 0 = ap (λ es. count_by (λ (e : ℕ × ℕ). nat_eq v e.1) es) idle.queue.empty in
      absurd (omega arith));
}

-- and still after some were queued
pub room_left : (xs levels : List ℕ) (size : ℕ) (w w' : Worklist) → HasRoom size w
    → Queues xs levels w.visits w'.visits w.queue w'.queue → HasRoom size w'
room_left xs levels size w w' room queues = record {
  marks = queues.among.size ∙ room.marks;
  visits = queues.among.visits room.visits;
  queue = (
      let left = queues.left in
      let more = queues.capacity in
      let fits = room.queue in
      omega arith);
  wide = (let more = queues.capacity in let wide = room.wide in omega arith);
  met = λ v k. (
      let count = queues.counts v in
      elim (visited_cases w'.visits v) [
        | inl on ↦ on
        | inr off' ↦ elim (visited_cases w.visits v) [
          | inl on ↦ queues.among.kept v on
          | inr off ↦
              (let m = mark_off w.visits v off in
              let m' = mark_off w'.visits v off' in
              queues.among.kept v (room.met v (omega arith)))
        ]
      ]);
}
