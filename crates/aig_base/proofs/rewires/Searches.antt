-- The search of a gate's fan-out, list of readers by list of readers.
use Rattle.std.proofs.Common.{◌≡◌, ◌≢◌, ◌⊎◌, inl, inr, ℕ, ◌+◌, ◌<◌, ◌≤◌, List, ◌∷◌, ◌++◌, [], Bool, true, false, length}
use Rattle.std.proofs.Common.{get_or, Some, slice_get, Contains, refl, sym, ◌∙◌, ap, subst, arith}
use Rattle.std.specs.Bool.{OnFalse}
use Rattle.std.specs.Vec.{vec_capacity}
use Rattle.std.proofs.lemmas.Bool.{cases_eq, cases_Bool, false≢true}
use Rattle.std.proofs.lemmas.Option.{slice_get_read, same_Some, slice_get_within, slice_get-get_or}
use Rattle.std.proofs.lemmas.Option.{get_or_from_slice_get}
use Rattle.std.proofs.lemmas.List.Elements.{Contains-push_cases}
use Rattle.aig_parts.specs.declared.gate.Gate.{Gate}
use Rattle.aig_parts.specs.declared.raw.Raw.{Raw}
use Rattle.aig_base.specs.declared.level.visits.Visits.{Visits}
use Rattle.aig_base.specs.Circuit.{IsCircuit}
use Rattle.aig_base.specs.Grounded.{Level}
use Rattle.aig_base.specs.Levels.{AreLevels}
use Rattle.aig_parts.specs.Literal.{variable}
use Rattle.aig_base.specs.Readers.{AreReaders, IsSide, ReaderLists, list_of}
use Rattle.aig_base.specs.state.Rewires.{IsApart, IsInFanOut, IsSearchUp, LooksAt}
use Rattle.aig_base.specs.Sections.{IsDefined}
use Rattle.aig_base.specs.state.Visits.{AreNoVisits, AreVisits, IsFrom, IsVisited, VisitsAmong}
use Rattle.aig_base.proofs.rewires.FanOutLemmas.{not_in_fan_out, search_begun, search_stepped}
use Rattle.aig_base.proofs.circuits.Defined.{Grounded-of_defined}
use Rattle.aig_base.proofs.fan_outs.ListedReaders.{listed, reads}
use Rattle.aig_base.proofs.levels.OneLevel.{level_of}
use Rattle.aig_base.proofs.rewires.VisitLemmas.{visits_none}
use Rattle.aig_base.proofs.checks.Walks.{met_within, only_element}

-- the search as far as the readers of the visited variables before a position were looked at
pub record IsFanOutSearch (raw : Raw) (t x y bound : ℕ) (first s : Visits) (next : ℕ) : Type 0 where
  pub up : IsSearchUp raw t x y bound (IsVisited s) (IsFrom s.list.items next)
  pub visits : AreVisits s
  pub size : length s.met.items ≡ length first.met.items
  pub capacity : vec_capacity s.list ≡ vec_capacity first.list

pub searched_none : (raw : Raw) (t x y bound n : ℕ) (first s : Visits) → AreNoVisits n first
    → VisitsAmong (t ∷ []) first s
    → IsVisited s t → IsFanOutSearch raw t x y bound first s 0
searched_none raw t x y bound n first s none a start = record {
  up = search_begun raw t x y bound (IsVisited s) (IsFrom s.list.items 0)
      (λ v. (
        λ h. elim (a.new v h) [ inl m ↦ absurd (none.unmet v m) | inr k ↦ sym (only_element t v k) ],
        λ e. subst (IsVisited s) (sym e) start,
      ))
      (λ v h. (a.visits (visits_none n first none)).listed v h);
  visits = a.visits (visits_none n first none);
  size = a.size;
  capacity = a.capacity;
}

-- the variable at the position that comes next
module _ (raw : Raw) (t x y bound : ℕ) (first s : Visits) (next u : ℕ) (h : IsFanOutSearch raw t x y bound first s next)
    (at : slice_get s.list.items next ≡ Some u) where
  pub next_visited : IsVisited s u
  next_visited = h.visits.marked u (next, omega arith, at)

  pub next_within : u < length first.met.items
  next_within = let lt = met_within s.met.items u next_visited in omega (arith, h.size)

  module _ (r : ReaderLists) (readers : AreReaders raw r) (le : u ≤ raw.max_var) where
    pub searched_found : (z : ℕ) → Contains (list_of r u) z → IsInFanOut raw t z
    searched_found z k =
        let (q, g, here, side, is) = reads raw r readers u le z k in
        subst (IsInFanOut raw t) is (IsInFanOut.reader q g u here side (h.up.reached u next_visited))

    module _ (levels : List ℕ) (are : AreLevels raw levels) (s' : Visits) (a : VisitsAmong (list_of r u) s s')
        (l : LooksAt (list_of r u) levels x y bound s') where
      -- what is visited now and was not before stands after the position
      later : (v : ℕ) → IsVisited s' v → (IsVisited s v → ⊥) → IsFrom s'.list.items (next + 1) v
      later v now never =
          let (k, low, here) = (a.visits h.visits).listed v now in
          elim (side k) [
            | inl before ↦
                (let within = slice_get_within s.list.items next u at in
                let there = slice_get-get_or s.list.items k v (omega arith) in
                let same : get_or s.list.items k v ≡ v = same_Some _ v (sym (a.stays k _ there) ∙ here) in
                absurd (never (h.visits.marked v (k, omega arith, there ∙ ap Some same))))
            | inr reached ↦ (k, reached, here)
          ]
        where
          side : (k : ℕ) → (k ≤ next) ⊎ (next + 1 ≤ k)
          side k = grind arith

      new_reader : (v : ℕ) → IsVisited s' v → IsVisited s v
          ⊎ ((q : ℕ) × (g : Gate) × (slice_get raw.gates q ≡ Some g) × IsSide g u × (variable g.lhs ≡ v)
          × IsFrom s'.list.items (next + 1) v)
      new_reader v now = elim (cases_Bool (get_or s.met.items v _)) [
        | inl met ↦ inl met
        | inr off ↦ elim (a.new v now) [
          | inl met ↦ inl met
          | inr k ↦
              (let (q, g, here, side, is) = reads raw r readers u le v k in
              inr (q, g, here, side, is, later v now (λ met. false≢true (sym off ∙ met))))
        ]
      ]

      still_queued : (v : ℕ) → IsFrom s.list.items next v → (v ≡ u) ⊎ IsFrom s'.list.items (next + 1) v
      still_queued v (k, low, here) = elim (cases_eq k next) [
        | inl e ↦ inl (same_Some v u (sym here ∙ ap (slice_get s.list.items) e ∙ at))
        | inr ne ↦ inr (k, reached k low ne, a.stays k v here)
      ]
        where
          reached : (k : ℕ) → next ≤ k → k ≢ next → next + 1 ≤ k
          reached k low ne = omega arith

      below : (q : ℕ) (g : Gate) → slice_get raw.gates q ≡ Some g → IsSide g u
          → (variable g.lhs ≢ x) × (variable g.lhs ≢ y)
          × ((m : ℕ) → Level raw (variable g.lhs) m → m < bound → IsVisited s' (variable g.lhs))
      below q g here side =
          let k = listed raw r readers u le q g here side in
          let (n0, n1) = l.other (variable g.lhs) k in (
            n0,
            n1,
            λ m level lt. (
                let is : get_or levels (variable g.lhs) 0 ≡ m =
                get_or_from_slice_get levels (variable g.lhs) m 0 (are.each (variable g.lhs) m level) in
                l.below (variable g.lhs) k (omega arith)),
          )

      pub searched_more : IsFanOutSearch raw t x y bound first s' (next + 1)
      searched_more = record {
        up = search_stepped raw t x y bound u (IsVisited s) (IsFrom s.list.items next) (IsVisited s')
            (IsFrom s'.list.items (next + 1)) h.up a.kept new_reader next_visited still_queued below;
        visits = a.visits h.visits;
        size = a.size ∙ h.size;
        capacity = a.capacity ∙ h.capacity;
      }

pub searched_all : (raw : Raw) → IsCircuit raw → (t x y bound : ℕ) (first s : Visits) (next : ℕ)
    → length s.list.items ≤ next → IsFanOutSearch raw t x y bound first s next → IsApart raw t bound x × IsApart raw t bound y
searched_all raw c t x y bound first s next past h = (
  λ n ne level le b. apart x n (inl refl) ne level le b,
  λ n ne level le b. apart y n (inr refl) ne level le b,
)
  where
    done : (v : ℕ) → IsFrom s.list.items next v → ⊥
    done v (k, low, at) = let within = slice_get_within s.list.items k v at in absurd (omega arith)

    apart : (z n : ℕ) → (z ≡ x) ⊎ (z ≡ y) → z ≢ t → Level raw z n → n ≤ bound → IsInFanOut raw t z → ⊥
    apart z n is ne level le b =
        not_in_fan_out raw c.sound t x y bound (IsVisited s) (IsFrom s.list.items next) h.up done z n is ne level le b

-- what is defined and is not t is not in the fan-out of t, where the search with a bound over its level says so
pub apart_at : (raw : Raw) → IsCircuit raw → (levels : List ℕ) → AreLevels raw levels → (t bound z : ℕ)
    → IsDefined raw z
    → z ≢ t → get_or levels z 0 ≤ bound → IsApart raw t bound z → IsInFanOut raw t z → ⊥
apart_at raw c levels are t bound z defined ne le apart b =
    let (n, level) = level_of (Grounded-of_defined raw c.acyclic z defined) in
    let is : get_or levels z 0 ≡ n = get_or_from_slice_get levels z n 0 (are.each z n level) in
    apart n ne level (omega arith) b

-- one more variable
pub looks_more : (xs levels : List ℕ) (v x y bound : ℕ) (s s' : Visits) → v ≢ x → v ≢ y
    → ((u : ℕ) → IsVisited s u → IsVisited s' u) → (get_or levels v 0 < bound → IsVisited s' v)
    → LooksAt xs levels x y bound s → LooksAt (xs ++ v ∷ []) levels x y bound s'
looks_more xs levels v x y bound s s' n0 n1 kept visited l = record {
  other = λ u h. elim (Contains-push_cases xs v u h) [
    | inl k ↦ l.other u k
    | inr e ↦ (λ f. n0 (e ∙ f), λ f. n1 (e ∙ f))
  ];
  below = λ u h lt. elim (Contains-push_cases xs v u h) [
    | inl k ↦ kept u (l.below u k lt)
    | inr e ↦ subst (IsVisited s') e (visited (subst (λ z. get_or levels z 0 < bound) (sym e) lt))
  ];
}

-- the element at a position that was read
pub element : (xs : List ℕ) (k u : ℕ) → k < length xs → u ≡ get_or xs k u → slice_get xs k ≡ Some u
element xs k u lt e = slice_get_read xs (length xs) k u refl lt e

pub on_false : (b : Bool) (P Q : Type 0) → (P → Q) → OnFalse b P → OnFalse b Q
on_false true P Q f p = tt
on_false false P Q f p = f p
