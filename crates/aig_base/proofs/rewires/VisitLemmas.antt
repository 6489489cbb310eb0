-- What one more visit and a list of visits do.
use Rattle.std.proofs.Common.{◌≡◌, ◌⊎◌, inl, inr, ℕ, ◌+◌, ◌<◌, List, [], ◌∷◌, ◌++◌, length, take, drop, get_or, set}
use Rattle.std.proofs.Common.{Bool, true, false, not, cond, count_by, Some, slice_get, All, Contains, refl, sym, ◌∙◌}
use Rattle.std.proofs.Common.{ap, subst, arith, get_or-set_same, length-set}
use Rattle.std.specs.Vec.{vec_capacity}
use Rattle.std.proofs.lemmas.List.{length_push, take-append-drop}
use Rattle.std.proofs.lemmas.List.Elements.{Contains-append_left, Contains-append_right}
use Rattle.std.proofs.lemmas.List.Sums.{sum_by-set, count_by-le-length}
use Rattle.std.proofs.lemmas.Option.{none-some}
use Rattle.aig_base.specs.declared.level.visits.Visits.{Visits}
use Rattle.aig_base.specs.state.Visits.{AreNoVisits, AreVisits, IsVisited, VisitsAmong}
use Rattle.aig_base.proofs.lists.Gets.{All-by_get, slice_get_left, slice_get_last, slice_get_push}
use Rattle.aig_base.proofs.checks.Walks.{met_within, stays_met, was_met}

-- a mark less among those that are missing
pub missing : (met : List Bool) (v : ℕ) → v < length met → get_or met v false ≡ false
    → count_by not (set met v true) + 1 ≡ count_by not met
missing met v lt off =
    let count : count_by not (set met v true) + 1 ≡ count_by not met + 0 =
    rw off at (sum_by-set (λ b. cond (not b) 1 0) met v true false lt) in
    omega arith

-- what a mark says that was read
pub is_off : (met : List Bool) (v : ℕ) (b : Bool) → b ≡ get_or met v b → b ≡ false → get_or met v false ≡ false
is_off met v b e off = sym (subst (λ (x : Bool). x ≡ get_or met v x) off e)

-- a variable is visited that was not
module _ (v : ℕ) (s s' : Visits) (lt : v < length s.met.items) (off : get_or s.met.items v false ≡ false)
    (marked : s'.met.items ≡ set s.met.items v true) (added : s'.list.items ≡ s.list.items ++ v ∷ [])
    (same : vec_capacity s'.list ≡ vec_capacity s.list) where
  marked_now : IsVisited s' v
  marked_now = ap (λ met. get_or met v false) marked ∙ get_or-set_same s.met.items v true false lt

  marked_still : (u : ℕ) → IsVisited s u → IsVisited s' u
  marked_still u h = ap (λ met. get_or met u false) marked ∙ stays_met s.met.items v u lt h

  marked_before : (u : ℕ) → IsVisited s' u → (u ≡ v) ⊎ IsVisited s u
  marked_before u h = was_met s.met.items v u (ap (λ met. get_or met u false) (sym marked) ∙ h)

  stays_listed : (k u : ℕ) → slice_get s.list.items k ≡ Some u → slice_get s'.list.items k ≡ Some u
  stays_listed k u at = ap (λ xs. slice_get xs k) added ∙ slice_get_left s.list.items (v ∷ []) k u at

  left_over : length s'.list.items + count_by not s'.met.items ≡ length s.list.items + count_by not s.met.items
  left_over =
      let more = missing s.met.items v lt off in
      let fewer : count_by not s'.met.items ≡ count_by not (set s.met.items v true) = ap (count_by not) marked in
      let longer : length s'.list.items ≡ length (s.list.items ++ v ∷ []) = ap length added in
      let size = length_push s.list.items v in
      omega arith

  visits_more : AreVisits s → AreVisits s'
  visits_more a = record {
    listed = λ u h. elim (marked_before u h) [
      | inl e ↦ (
        length s.list.items,
        omega arith,
        ap (λ xs. slice_get xs (length s.list.items)) added ∙ slice_get_last s.list.items v ∙ ap Some (sym e),
      )
      | inr m ↦ (let (k, le, at) = a.listed u m in (k, le, stays_listed k u at))
    ];
    marked = λ u h. (
        let (k, le, at) = h in
        elim (slice_get_push s.list.items v u k (ap (λ xs. slice_get xs k) (sym added) ∙ at)) [
          | inl there ↦ marked_still u (a.marked u (k, le, there))
          | inr is ↦ subst (IsVisited s') is.1 marked_now
        ]);
    room = (let l = left_over in let r = a.room in omega arith);
  }

  pub visited_more : VisitsAmong (v ∷ []) s s'
  visited_more = record {
    visits = visits_more;
    size = ap length marked ∙ length-set s.met.items v true;
    capacity = same;
    left = left_over;
    kept = marked_still;
    new = λ u h. elim (marked_before u h) [
      | inl e ↦ inr (0, omega arith, sym e)
      | inr m ↦ inl m
    ];
    stays = stays_listed;
  }

pub among_same : (xs : List ℕ) (s : Visits) → VisitsAmong xs s s
among_same xs s = record {
  visits = λ a. a;
  size = refl;
  capacity = refl;
  left = refl;
  kept = λ v h. h;
  new = λ v h. inl h;
  stays = λ k v h. h;
}

pub among_more : (xs : List ℕ) (v : ℕ) (s s' s'' : Visits) → VisitsAmong xs s s' → VisitsAmong (v ∷ []) s' s''
    → VisitsAmong (xs ++ v ∷ []) s s''
among_more xs v s s' s'' a b = record {
  visits = λ h. b.visits (a.visits h);
  size = b.size ∙ a.size;
  capacity = b.capacity ∙ a.capacity;
  left = b.left ∙ a.left;
  kept = λ u h. b.kept u (a.kept u h);
  new = λ u h. elim (b.new u h) [
    | inl m ↦ elim (a.new u m) [ inl k ↦ inl k | inr k ↦ inr (Contains-append_left xs (v ∷ []) u k) ]
    | inr k ↦ inr (Contains-append_right xs (v ∷ []) u k)
  ];
  stays = λ k u h. b.stays k u (a.stays k u h);
}

pub among_wider : (xs ys : List ℕ) (s s' : Visits) → ((v : ℕ) → Contains xs v → Contains ys v) → VisitsAmong xs s s'
    → VisitsAmong ys s s'
among_wider xs ys s s' wider a = record {
  visits = a.visits;
  size = a.size;
  capacity = a.capacity;
  left = a.left;
  kept = a.kept;
  new = λ u h. elim (a.new u h) [ inl m ↦ inl m | inr k ↦ inr (wider u k) ];
  stays = a.stays;
}

pub Contains-of_take : (n : ℕ) (xs : List ℕ) (v : ℕ) → Contains (take n xs) v → Contains xs v
Contains-of_take n xs v h =
    subst (λ ys. Contains ys v) (take-append-drop n xs) (Contains-append_left (take n xs) (drop n xs) v h)

-- nothing was visited
pub visits_none : (n : ℕ) (s : Visits) → AreNoVisits n s → AreVisits s
visits_none n s a = record {
  listed = λ v h. absurd (a.unmet v h);
  marked = λ v h. (let (k, le, at) = h in absurd (none-some v (ap (λ xs. slice_get xs k) (sym a.empty) ∙ at)));
  room = (
      let most = count_by-le-length not s.met.items in
      let empty : length s.list.items ≡ 0 = ap length a.empty in
      let size = a.marks in
      let room = a.room in
      omega arith);
}

-- what is visited is marked
pub listed_within : (s : Visits) → AreVisits s → All (λ v. v < length s.met.items) s.list.items
listed_within s a =
    All-by_get (λ v. v < length s.met.items) s.list.items
    (λ k v at. met_within s.met.items v (a.marked v (k, omega arith, at)))
