-- Lists that are tidy, and the places of their gates.
use Rattle.std.proofs.Common.{◌≡◌, ◌≢◌, ◌⊎◌, inl, inr, ℕ, ◌+◌, ◌<◌, ◌≤◌, min, List, [], ◌∷◌, ◌++◌, length, Contains}
use Rattle.std.proofs.Common.{replicate, zero, suc, nat_eq, count_by, ap, sym, ◌∙◌, refl, subst, arith}
use Rattle.std.specs.List.{range_with_len}
use Rattle.std.proofs.lemmas.Bool.{cases_eq, eq-eqb, ne_eqb}
use Rattle.std.proofs.lemmas.List.{length-replicate, length_push}
use Rattle.std.proofs.lemmas.List.FromFn.{length-range_with_len, get_or-range_with_len}
use Rattle.aig_parts.specs.Formed.{limit}
use Rattle.aig_base.specs.declared.readers.list_places.Places.{Places}
use Rattle.aig_base.specs.Sound.{StandsTwice}
use Rattle.aig_base.specs.Readers.{GateList}
use Rattle.aig_base.specs.state.FanOuts.{AreFanOuts, AreTidy, fitting_lists}
use Rattle.aig_base.specs.state.ListPlaces.{AreKept, StandsNew, WritesPlaces, short}
use Rattle.aig_base.specs.state.ReaderSlots.{AddsBoth, KeepsLists, capacity_at, items_at, tally}
use Rattle.aig_base.proofs.lists.Counting.{length_le}
use Rattle.aig_base.proofs.fan_outs.ListPlaceLemmas.{capacity_within, items_pushed, kept_added, kept_none, kept_pushed}
use Rattle.aig_base.proofs.fan_outs.ListPlaceLemmas.{same_place, tidy_same}
use Rattle.aig_base.proofs.fan_outs.ReaderLists.{count-of_Contains, kept_items, kept_size}

two_sides : (a b v x y : ℕ) → (a ≡ v) ⊎ (b ≡ v) → (a ≡ x) ⊎ (b ≡ x) → (a ≡ y) ⊎ (b ≡ y)
    → (v ≡ x) ⊎ (v ≡ y) ⊎ (x ≡ y)
two_sides a b v x y h k l = elim h [
  | inl e ↦ elim k [
    | inl f ↦ inl (sym e ∙ f)
    | inr f ↦ elim l [ inl g ↦ inr (inl (sym e ∙ g)) | inr g ↦ inr (inr (sym f ∙ g)) ]
  ]
  | inr e ↦ elim k [
    | inl f ↦ elim l [ inl g ↦ inr (inr (sym f ∙ g)) | inr g ↦ inr (inl (sym e ∙ g)) ]
    | inr f ↦ inl (sym e ∙ f)
  ]
]

-- no list has more entries than there are variables
pub narrow_tidy : (slots : List GateList) → AreTidy slots → (v : ℕ) → length (items_at slots v) < 4294967296
narrow_tidy slots t v =
    let n = length slots in
    let le = length_le (items_at slots v) (range_with_len 0 n) never inside in
    let few = t.size in
    omega (arith, length-range_with_len 0 n)
  where
    never : (w : ℕ) → StandsTwice (items_at slots v) w → ⊥
    never w (i, j, lt, at, here) =
        let e = same_place w i j (items_at slots v) (t.once v w) at here in
        omega arith

    inside : (w : ℕ) → Contains (items_at slots v) w → Contains (range_with_len 0 (length slots)) w
    inside w h =
        let lt = t.within v w (count-of_Contains w (items_at slots v) h) in (
          w,
          omega (arith, length-range_with_len 0 (length slots)),
          get_or-range_with_len 0 (length slots) w w lt ∙ omega arith,
        )

pub tidy_none : (slots : List GateList) → ((v w : ℕ) → tally slots v w ≡ 0) → length slots ≤ limit + 1
    → AreTidy slots
tidy_none slots none_yet small = record {
  once = λ v w. (let z = none_yet v w in omega arith);
  few = λ v x y w a b c. absurd (let z = none_yet v w in omega arith);
  within = λ v w a. absurd (let z = none_yet v w in omega arith);
  size = small;
}

-- so many empty lists
module _ (n : ℕ) where
  abbrev none : List GateList
  none = replicate n (record { items = []; capacity = 4 })

  none_at : (m v : ℕ) → (items_at (replicate m (record { items = []; capacity = 4 })) v ≡ [])
      × (capacity_at (replicate m (record { items = []; capacity = 4 })) v ≤ 4)
  none_at zero v = (refl, omega arith)
  none_at (suc m) zero = (refl, omega arith)
  none_at (suc m) (suc v) = none_at m v

  pub none_long : length none ≡ n
  none_long = length-replicate n (record { items = []; capacity = 4 })

  pub none_tally : (v w : ℕ) → tally none v w ≡ 0
  none_tally v w = ap (count_by (nat_eq w)) (none_at n v).0

  pub none_fan_outs : (places : List Places) → n ≤ limit + 1 → AreFanOuts none places
  none_fan_outs places small = record {
    tidy = tidy_none none none_tally (omega (arith, none_long));
    kept = kept_none none places none_tally (λ v. (let few = (none_at n v).1 in omega arith));
  }

-- a gate over all variables is in no list
pub absent_over : (slots : List GateList) → AreTidy slots → (u : ℕ) → length slots ≤ u → (v : ℕ)
    → tally slots v u ≡ 0
absent_over slots t u over v = elim (cases_eq (tally slots v u) 0) [
  | inl e ↦ e
  | inr ne ↦ absurd (let lt = t.within v u (omega arith) in omega arith)
]

-- after a gate that was in no list came to two of them
module _ (a b u : ℕ) (old new : List GateList) (adds : AddsBoth a b u old new) (gate : u < length old)
    (absent : (v : ℕ) → tally old v u ≡ 0) (tidy : AreTidy old) where
  where_new : (v : ℕ) → 1 ≤ tally new v u → (a ≡ v) ⊎ (b ≡ v)
  where_new v h = elim (cases_eq v a) [
    | inl e ↦ inl (sym e)
    | inr n0 ↦ elim (cases_eq v b) [
      | inl e ↦ inr (sym e)
      | inr n1 ↦ absurd (let same = adds.away v n0 n1 in let z = absent v in omega arith)
    ]
  ]

  once_new : (v : ℕ) → tally new v u ≤ 1
  once_new v = elim (cases_eq v a) [
    | inl e ↦ (let is = adds.here v (inl e) in let z = absent v in omega arith)
    | inr n0 ↦ elim (cases_eq v b) [
      | inl e ↦ (let is = adds.here v (inr e) in let z = absent v in omega arith)
      | inr n1 ↦ (let same = adds.away v n0 n1 in let z = absent v in omega arith)
    ]
  ]

  as_new : (v w : ℕ) → w ≡ u → 1 ≤ tally new v w → 1 ≤ tally new v u
  as_new v w e h = subst (λ z. 1 ≤ tally new v z) e h

  was : (v w : ℕ) → w ≢ u → 1 ≤ tally new v w → 1 ≤ tally old v w
  was v w ne h = let same = adds.others v w ne in omega arith

  pub tidy_added : AreTidy new
  tidy_added = record {
    once = λ v w. elim (cases_eq w u) [
      | inl e ↦ subst (λ z. tally new v z ≤ 1) (sym e) (once_new v)
      | inr ne ↦ (let same = adds.others v w ne in let o = tidy.once v w in omega arith)
    ];
    few = λ v x y w h k l. elim (cases_eq w u) [
      | inl e ↦ two_sides a b v x y (where_new v (as_new v w e h)) (where_new x (as_new x w e k))
          (where_new y (as_new y w e l))
      | inr ne ↦ tidy.few v x y w (was v w ne h) (was x w ne k) (was y w ne l)
    ];
    within = λ v w h. elim (cases_eq w u) [
      | inl e ↦ (let size = adds.size in omega arith)
      | inr ne ↦ (let lt = tidy.within v w (was v w ne h) in let size = adds.size in omega arith)
    ];
    size = (let size = adds.size in let few = tidy.size in omega arith);
  }

pub added : (a b u : ℕ) (p : Places) (old new : List GateList) (before after : List Places)
    → AddsBoth a b u old new → StandsNew a b u p old new → WritesPlaces u p before after → u < length old
    → ((v : ℕ) → tally old v u ≡ 0) → AreFanOuts old before → AreFanOuts new after
added a b u p old new before after adds stands writes gate absent are = record {
  tidy = tidy_added a b u old new adds gate absent are.tidy;
  kept = kept_added a b u p old new before after stands writes absent adds.size are.kept;
}

fitting_none : (capacity places : ℕ) → places ≡ 0 → fitting_lists capacity places ≡ capacity
fitting_none capacity places e = rw (eq-eqb places 0 e) refl

fitting_some : (capacity places : ℕ) → places ≢ 0 → fitting_lists capacity places ≡ min capacity places
fitting_some capacity places ne = rw (ne_eqb places 0 ne) refl

-- where one more list fits, it fits into the lists and into a table that there is
pub fitting_capacity : (capacity places n : ℕ) → n < fitting_lists capacity places → n < capacity
fitting_capacity capacity places n h = elim (cases_eq places 0) [
  | inl e ↦ (let is = fitting_none capacity places e in omega arith)
  | inr ne ↦ (let is = fitting_some capacity places ne in omega arith)
]

pub fitting_places : (capacity places n : ℕ) → n < fitting_lists capacity places → places ≢ 0 → n < places
fitting_places capacity places n h ne = let is = fitting_some capacity places ne in omega arith

pub fits_one_more : (capacity places n : ℕ) → n < capacity → (0 < places → n + 1 ≤ places)
    → n < fitting_lists capacity places
fits_one_more capacity places n lt covers = elim (cases_eq places 0) [
  | inl e ↦ (let is = fitting_none capacity places e in omega arith)
  | inr ne ↦ (let is = fitting_some capacity places ne in let c = covers (omega arith) in omega arith)
]

pub pushed : (slots : List GateList) (s : GateList) (places : List Places) (capacity : ℕ) → s.items ≡ []
    → s.capacity ≤ short → length slots < fitting_lists capacity (length places) → length slots ≤ limit
    → AreFanOuts slots places → AreFanOuts (slots ++ s ∷ []) places
pushed slots s places capacity empty_yet small fits few are = record {
  tidy = (let long = length_push slots s in
      tidy_same slots (slots ++ s ∷ []) (items_pushed slots s empty_yet) (omega arith) (omega arith) are.tidy);
  kept = kept_pushed slots s places empty_yet small (λ v lt.
      (let within = capacity_within slots short v lt in
      let c = are.kept.covered v lt in
      let more = fitting_places capacity (length places) (length slots) fits
      (λ (e : length places ≡ 0). (let z : ⊥ = omega arith in z)) in
      omega arith)) are.kept;
}

-- where no list changes and nothing is lost of the table
pub roomy : (old new : List GateList) (places : List Places) → KeepsLists old new → AreTidy old → AreKept new places
    → AreFanOuts new places
roomy old new places k tidy kept = record {
  tidy = (let size = kept_size old new k in let few = tidy.size in
      tidy_same old new (kept_items old new k) (omega arith) (omega arith) tidy);
  kept = kept;
}
