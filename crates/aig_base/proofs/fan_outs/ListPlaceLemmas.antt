-- The places of gates in long lists: what taking out, adding and making room do to them.
use Rattle.std.proofs.Common.{◌≡◌, ◌≢◌, ◌⊎◌, inl, inr, ℕ, zero, suc, ◌+◌, ◌-◌, ◌*◌, ◌<◌, ◌≤◌, List, [], ◌∷◌, ◌++◌}
use Rattle.std.proofs.Common.{length, get_or, set, take, nat_eq, count_by, slice_get, Some, refl, sym, ◌∙◌}
use Rattle.std.proofs.Common.{ap, subst, arith, swap_remove, length-set, length-take}
use Rattle.std.proofs.lemmas.Bool.{cases_eq, cases_lt}
use Rattle.std.proofs.lemmas.List.{length_push, set-get_or}
use Rattle.std.proofs.lemmas.Option.{slice_get_within, slice_get-get_or, none-some, same_Some}
use Rattle.aig_base.specs.declared.readers.list_places.Places.{Places}
use Rattle.aig_parts.specs.Formed.{limit}
use Rattle.aig_base.specs.Readers.{GateList}
use Rattle.aig_base.specs.state.FanOuts.{AreFanOuts, AreTidy}
use Rattle.aig_base.specs.state.GateLists.{GetsRoom}
use Rattle.aig_base.specs.state.ListPlaces.{short, StandsAt, HasPlace, HasListPlaces, AreKept, Extends}
use Rattle.aig_base.specs.state.ListPlaces.{RenewsPlace, WritesPlaces, Stays, Shifts, StaysOrShifts, StandsNew}
use Rattle.aig_base.specs.state.ListPlaces.{TakesFrom}
use Rattle.aig_base.specs.state.ReaderSlots.{capacity_at, items_at, no_list, with_items_at, tally, FitsOneReader}
use Rattle.aig_base.specs.state.ReaderSlots.{KeepsLists, Loses}
use Rattle.aig_base.proofs.lists.Gets.{slice_get-set_same, slice_get-set_other, slice_get_push}
use Rattle.aig_base.proofs.fan_outs.ReaderLists.{Contains-of_count, count-of_get, count-cons, gets_keeps, here_is}
use Rattle.aig_base.proofs.fan_outs.ReaderLists.{kept_items, loses_none}
use Rattle.aig_base.proofs.fan_outs.ReaderLists.{one_same, other_is}

get_taken : (xs : List ℕ) (n i x : ℕ) → slice_get (take n xs) i ≡ Some x → slice_get xs i ≡ Some x
get_taken [] zero i x h = h
get_taken [] (suc n) i x h = h
get_taken (y ∷ ys) zero i x h = absurd (none-some x h)
get_taken (y ∷ ys) (suc n) zero x h = h
get_taken (y ∷ ys) (suc n) (suc i) x h = get_taken ys n i x h

-- where another entry stands after one was taken out it stood before
pub removed_other : (xs : List ℕ) (i j d x : ℕ) → j ≢ i → slice_get (swap_remove xs i d) j ≡ Some x
    → slice_get xs j ≡ Some x
removed_other xs i j d x ne h =
    sym (slice_get-set_other xs i j (get_or xs (length xs - 1) d) ne)
    ∙ get_taken (set xs i (get_or xs (length xs - 1) d)) (length xs - 1) j x h

-- in its place stands the last one
pub removed_here : (xs : List ℕ) (i d x : ℕ) → i < length xs → slice_get (swap_remove xs i d) i ≡ Some x
    → slice_get xs (length xs - 1) ≡ Some x
removed_here xs i d x lt h =
    let last = get_or xs (length xs - 1) d in
    let there : slice_get (set xs i last) i ≡ Some x = get_taken (set xs i last) (length xs - 1) i x h in
    slice_get-get_or xs (length xs - 1) d (omega arith) ∙ sym (slice_get-set_same xs i last lt) ∙ there

pub length_removed : (xs : List ℕ) (i d : ℕ) → i < length xs → length (swap_remove xs i d) + 1 ≡ length xs
length_removed xs i d lt =
    let last = get_or xs (length xs - 1) d in
    omega (arith, length-take (length xs - 1) (set xs i last), length-set xs i last)

-- what is counted once stands at one place
pub same_place : (w i j : ℕ) (xs : List ℕ) → count_by (nat_eq w) xs ≤ 1 → slice_get xs i ≡ Some w
    → slice_get xs j ≡ Some w → i ≡ j
same_place w i j [] once at here = absurd (none-some w at)
same_place w zero zero (x ∷ xs) once at here = refl
same_place w zero (suc j) (x ∷ xs) once at here =
    let is = count-cons w x xs in
    let e : w ≡ x = sym (same_Some x w at) in
    let one_is = one_same w in
    let rest = count-of_get w j xs here in
    absurd (let k : count_by (nat_eq w) (x ∷ xs) ≡ 1 + count_by (nat_eq w) xs =
    is ∙ ap (λ n. n + count_by (nat_eq w) xs) (rw (← e) one_is) in omega arith)
same_place w (suc i) zero (x ∷ xs) once at here =
    let is = count-cons w x xs in
    let e : w ≡ x = sym (same_Some x w here) in
    let one_is = one_same w in
    let rest = count-of_get w i xs at in
    absurd (let k : count_by (nat_eq w) (x ∷ xs) ≡ 1 + count_by (nat_eq w) xs =
    is ∙ ap (λ n. n + count_by (nat_eq w) xs) (rw (← e) one_is) in omega arith)
same_place w (suc i) (suc j) (x ∷ xs) once at here =
    let is = count-cons w x xs in
    ap suc (same_place w i j xs (omega arith) at here)

has_second : {ps : List Places} {w i j : ℕ} → HasListPlaces ps w i j → HasPlace ps w j
has_second h = record {
  kept = h.kept;
  at = h.at;
  is = elim h.are [ inl a ↦ inr a.1 | inr a ↦ inl a.0 ];
}

flip : {ps : List Places} {w i j : ℕ} → HasListPlaces ps w i j → HasListPlaces ps w j i
flip h = record {
  kept = h.kept;
  at = h.at;
  are = elim h.are [ inl a ↦ inr a | inr a ↦ inl a ];
}

-- a place that is renewed
renewed_one : (w from to : ℕ) (before after : List Places) → RenewsPlace w from to before after
    → HasPlace before w from → HasPlace after w to
renewed_one w from to before after r h = elim (cases_eq h.kept.first from) [
  | inl e ↦ record {
    kept = record { first = to; second = h.kept.second };
    at = r.first h.kept h.at e;
    is = inl refl;
  }
  | inr ne ↦ record {
    kept = record { first = h.kept.first; second = to };
    at = r.second h.kept h.at ne;
    is = inr refl;
  }
]

-- and the other place of the gate, even where it is the same number
renewed_two : (w from to j : ℕ) (before after : List Places) → RenewsPlace w from to before after
    → HasListPlaces before w from j → HasListPlaces after w to j
renewed_two w from to j before after r h = elim (cases_eq h.kept.first from) [
  | inl e ↦ record {
    kept = record { first = to; second = h.kept.second };
    at = r.first h.kept h.at e;
    are = inl (refl, elim h.are [ inl a ↦ a.1 | inr a ↦ a.1 ∙ sym e ∙ a.0 ]);
  }
  | inr ne ↦ record {
    kept = record { first = h.kept.first; second = to };
    at = r.second h.kept h.at ne;
    are = elim h.are [ inl a ↦ absurd (ne a.0) | inr a ↦ inr (a.0, refl) ];
  }
]

stands_counted : (slots : List GateList) (v i w : ℕ) → StandsAt slots v i w → 1 ≤ tally slots v w
stands_counted slots v i w at = count-of_get w i (items_at slots v) at

-- after an entry was taken out of one list
module _ (slots : List GateList) (v : ℕ) (new : GateList) (within : v < length slots)
    (before after : List Places) (kept : AreKept slots before) (tidy : AreTidy slots) (u : ℕ)
    (loses : Loses u (items_at slots v) new.items) (same : new.capacity ≡ capacity_at slots v)
    (follows : StaysOrShifts (items_at slots v) new.items before after) where
  abbrev now : List GateList
  now = set slots v new

  items_here : items_at now v ≡ new.items
  items_here = ap (λ (s : GateList). s.items) (here_is slots v new within)

  items_other : (y : ℕ) → y ≢ v → items_at now y ≡ items_at slots y
  items_other y ne = ap (λ (s : GateList). s.items) (other_is slots v new within y ne)

  capacity_same : (y : ℕ) → capacity_at now y ≡ capacity_at slots y
  capacity_same y = elim (cases_eq y v) [
    | inl e ↦
        ap (λ z. capacity_at now z) e ∙ ap (λ (s : GateList). s.capacity) (here_is slots v new within) ∙ same
        ∙ ap (λ z. capacity_at slots z) (sym e)
    | inr ne ↦ ap (λ (s : GateList). s.capacity) (other_is slots v new within y ne)
  ]

  fewer : (y w : ℕ) → tally now y w ≤ tally slots y w
  fewer y w = elim (cases_eq y v) [
    | inl e ↦
        (let is : tally now v w ≡ count_by (nat_eq w) new.items = ap (λ xs. count_by (nat_eq w) xs) items_here in
        let le : count_by (nat_eq w) new.items ≤ tally slots v w = elim (cases_eq w u) [
          | inl f ↦ subst (λ z. count_by (nat_eq z) new.items ≤ tally slots v z) (sym f)
              (let h = loses.here in omega arith)
          | inr ne ↦ (let h = loses.others w ne in omega arith)
        ] in
        subst (λ z. tally now z w ≤ tally slots z w) (sym e) (omega arith))
    | inr ne ↦ (let is = ap (λ xs. count_by (nat_eq w) xs) (items_other y ne) in omega arith)
  ]

  pub tidy_taken : AreTidy now
  tidy_taken = record {
    once = λ y w. (let a = fewer y w in let b = tidy.once y w in omega arith);
    few = λ x y z w a b c. tidy.few x y z w (let l = fewer x w in omega arith) (let l = fewer y w in omega arith)
        (let l = fewer z w in omega arith);
    within = λ y w a. (let l = fewer y w in let k = tidy.within y w (omega arith) in
        let long = length-set slots v new in omega arith);
    size = (let long = length-set slots v new in let few = tidy.size in omega arith);
  }

  entry_here : (i w : ℕ) → StandsAt now v i w → slice_get new.items i ≡ Some w
  entry_here i w h = subst (λ (xs : List ℕ). slice_get xs i ≡ Some w) items_here h

  entry_other : (y i w : ℕ) → y ≢ v → StandsAt now y i w → StandsAt slots y i w
  entry_other y i w ne h = subst (λ (xs : List ℕ). slice_get xs i ≡ Some w) (items_other y ne) h

  covered_taken : length after ≡ length before → (y : ℕ) → short < capacity_at now y → length now ≤ length after
  covered_taken size y lt =
      let c = kept.covered y (let e = capacity_same y in omega arith) in
      let long = length-set slots v new in
      omega arith

  kept_stays : Stays (items_at slots v) new.items before after → AreKept now after
  kept_stays s = subst (λ ps. AreKept now ps) (sym s.places) (record {
    one = λ y i w le h. kept.one y i w le (old y i w le h);
    two = λ y x i j w ne li lj h k. kept.two y x i j w ne li lj (old y i w li h) (old x j w lj k);
    covered = λ y lt. (let c = covered_taken (ap length s.places) y lt in let e = ap length s.places in omega arith);
  })
    where
      old : (y i w : ℕ) → short ≤ i → StandsAt now y i w → StandsAt slots y i w
      old y i w le h = elim (cases_eq y v) [
        | inl e ↦ subst (λ z. StandsAt slots z i w) (sym e)
            (s.list i w le (entry_here i w (subst (λ z. StandsAt now z i w) e h)))
        | inr ne ↦ entry_other y i w ne h
      ]

  module _ (w from to : ℕ) (s : Shifts w from to (items_at slots v) new.items before after) where
    -- an entry of another gate stood there before
    old_entry : (y i x : ℕ) → x ≢ w → StandsAt now y i x → StandsAt slots y i x
    old_entry y i x ne h = elim (cases_eq y v) [
      | inl e ↦
          (let here : slice_get new.items i ≡ Some x = entry_here i x (subst (λ z. StandsAt now z i x) e h) in
          let apart : i ≢ to = (λ f. ne (same_Some x w (sym here ∙ ap (slice_get new.items) f ∙ s.here))) in
          subst (λ z. StandsAt slots z i x) (sym e) (s.others i x apart here))
      | inr other ↦ entry_other y i x other h
    ]

    -- the gate that moved stands there alone
    moved_here : (i : ℕ) → StandsAt now v i w → i ≡ to
    moved_here i h =
        let o : count_by (nat_eq w) new.items ≤ 1 =
        subst (λ xs. count_by (nat_eq w) xs ≤ 1) items_here (tidy_taken.once v w) in
        same_place w i to new.items o (entry_here i w h) s.here

    same_at : (x i : ℕ) → x ≢ w → HasPlace before x i → HasPlace after x i
    same_at x i ne h = record { kept = h.kept; at = s.renews.others x ne ∙ h.at; is = h.is }

    same_both : (x i j : ℕ) → x ≢ w → HasListPlaces before x i j → HasListPlaces after x i j
    same_both x i j ne h = record { kept = h.kept; at = s.renews.others x ne ∙ h.at; are = h.are }

    -- with the place in another list
    moved_two : (y j : ℕ) → y ≢ v → short ≤ j → StandsAt now y j w → HasListPlaces after w to j
    moved_two y j ne le h =
        renewed_two w from to j before after s.renews
        (kept.two v y from j w (λ e. ne (sym e)) s.long le s.was (entry_other y j w ne h))

    moved_one : (y i : ℕ) → short ≤ i → StandsAt now y i w → HasPlace after w i
    moved_one y i le h = elim (cases_eq y v) [
      | inl e ↦ subst (λ z. HasPlace after w z) (sym (moved_here i (subst (λ z. StandsAt now z i w) e h)))
          (renewed_one w from to before after s.renews (kept.one v from w s.long s.was))
      | inr ne ↦ has_second (moved_two y i ne le h)
    ]

    moved_both : (y x i j : ℕ) → y ≢ x → short ≤ i → short ≤ j → StandsAt now y i w → StandsAt now x j w
        → HasListPlaces after w i j
    moved_both y x i j ne li lj h k = elim (cases_eq y v) [
      | inl e ↦ subst (λ z. HasListPlaces after w z j) (sym (moved_here i (subst (λ z. StandsAt now z i w) e h)))
          (moved_two x j (λ f. ne (e ∙ sym f)) lj k)
      | inr ny ↦ elim (cases_eq x v) [
        | inl e ↦ subst (λ z. HasListPlaces after w i z) (sym (moved_here j (subst (λ z. StandsAt now z j w) e k)))
            (flip (moved_two y i ny li h))
        | inr nx ↦ elim (tidy.few v y x w (stands_counted slots v from w s.was)
            (stands_counted slots y i w (entry_other y i w ny h))
            (stands_counted slots x j w (entry_other x j w nx k))) [
              | inl e ↦ absurd (ny (sym e))
              | inr e ↦ elim e [ inl f ↦ absurd (nx (sym f)) | inr f ↦ absurd (ne f) ]
            ]
      ]
    ]

    kept_shifts : AreKept now after
    kept_shifts = record {
      one = λ y i x le h. elim (cases_eq x w) [
        | inl e ↦ subst (λ z. HasPlace after z i) (sym e) (moved_one y i le (subst (λ z. StandsAt now y i z) e h))
        | inr ne ↦ same_at x i ne (kept.one y i x le (old_entry y i x ne h))
      ];
      two = λ y z i j x apart li lj h k. elim (cases_eq x w) [
        | inl e ↦ subst (λ t. HasListPlaces after t i j) (sym e)
            (moved_both y z i j apart li lj (subst (λ t. StandsAt now y i t) e h) (subst (λ t. StandsAt now z j t) e k))
        | inr ne ↦ same_both x i j ne
            (kept.two y z i j x apart li lj (old_entry y i x ne h) (old_entry z j x ne k))
      ];
      covered = covered_taken s.renews.size;
    }

  pub kept_taken : AreKept now after
  kept_taken = elim follows [ inl s ↦ kept_stays s | inr m ↦ kept_shifts m.0 m.1 m.2 m.3 ]

pub taken_out : (slots new : List GateList) (v u : ℕ) (before after : List Places) → v < length slots
    → AreFanOuts slots before → TakesFrom v u slots new before after → AreFanOuts new after
taken_out slots new v u before after within are t =
    let list : GateList = record { items = t.left; capacity = capacity_at slots v } in
    subst (λ ls. AreFanOuts ls after) (sym t.list) (record {
      tidy = tidy_taken slots v list within before after are.kept are.tidy u t.loses refl t.follows;
      kept = kept_taken slots v list within before after are.kept are.tidy u t.loses refl t.follows;
    })

-- where it stood in no list
pub takes_none : (slots : List GateList) (v u : ℕ) (places : List Places)
    → count_by (nat_eq u) (items_at slots v) ≡ 0 → TakesFrom v u slots slots places places
takes_none slots v u places never = record {
  left = items_at slots v;
  list = sym (set-get_or slots v no_list);
  loses = loses_none u (items_at slots v) never;
  follows = inl (record { list = λ i w le h. h; places = refl });
}

pub follows_size : (old new : List ℕ) (before after : List Places) → StaysOrShifts old new before after
    → length after ≡ length before
follows_size old new before after f = elim f [ inl s ↦ ap length s.places | inr m ↦ m.3.renews.size ]

-- after a gate came to the end of a list
pub stands_new : (slots : List GateList) (v u : ℕ) → v < length slots
    → StandsNew v v u (record { first = length (items_at slots v); second = length (items_at slots v) }) slots
    (with_items_at slots v (items_at slots v ++ u ∷ []))
stands_new slots v u within = record {
  capacities = λ y. elim (cases_eq y v) [
    | inl e ↦ ap (λ z. capacity_at new z) e ∙ ap (λ (s : GateList). s.capacity) (here_is slots v list within)
        ∙ ap (λ z. capacity_at slots z) (sym e)
    | inr ne ↦ ap (λ (s : GateList). s.capacity) (other_is slots v list within y ne)
  ];
  first = refl;
  second = refl;
  others = λ y ne also. ap (λ (s : GateList). s.items) (other_is slots v list within y ne);
  entries = λ y i w h. elim (cases_eq y v) [
    | inl e ↦ elim (slice_get_push (items_at slots v) u w i (here i w (subst (λ z. StandsAt new z i w) e h))) [
      | inl old ↦ inl (subst (λ z. StandsAt slots z i w) (sym e) old)
      | inr last ↦ inr (sym last.1, inl (e, last.0))
    ]
    | inr ne ↦ inl (subst (λ (xs : List ℕ). slice_get xs i ≡ Some w)
        (ap (λ (s : GateList). s.items) (other_is slots v list within y ne)) h)
  ];
}
  where
    list : GateList
    list = record { items = items_at slots v ++ u ∷ []; capacity = capacity_at slots v }

    new : List GateList
    new = with_items_at slots v (items_at slots v ++ u ∷ [])

    here : (i w : ℕ) → StandsAt new v i w → slice_get (items_at slots v ++ u ∷ []) i ≡ Some w
    here i w h = subst (λ (xs : List ℕ). slice_get xs i ≡ Some w)
        (ap (λ (s : GateList). s.items) (here_is slots v list within)) h

-- a gate that comes to the end of a list in which places are kept has a place
pub place_covered : (slots : List GateList) (places : List Places) (v i u : ℕ) → AreKept slots places
    → FitsOneReader slots v → i ≡ length (items_at slots v) → u < length slots → short ≤ i → u < length places
place_covered slots places v i u kept fits is within long =
    let all = kept.covered v (omega arith) in omega arith

-- after a gate that stood nowhere came to the ends of two lists
pub kept_added : (v x u : ℕ) (p : Places) (old new : List GateList) (before after : List Places)
    → StandsNew v x u p old new → WritesPlaces u p before after → ((y : ℕ) → tally old y u ≡ 0) → length new ≡ length old
    → AreKept old before → AreKept new after
kept_added v x u p old new before after s wr absent size kept = record {
  one = λ y i w le h. elim (s.entries y i w h) [
    | inl was ↦ (let k = kept.one y i w le was in
        record { kept = k.kept; at = wr.others w (other y i w was) ∙ k.at; is = k.is })
    | inr (e, side) ↦ subst (λ z. HasPlace after z i) (sym e) (elim side [
      | inl (f, g) ↦ record { kept = p; at = wr.here (inl (omega arith)); is = inl (sym g) }
      | inr (f, g) ↦ record { kept = p; at = wr.here (inr (omega arith)); is = inr (sym g) }
    ])
  ];
  two = λ y z i j w ne li lj h k. elim (s.entries y i w h) [
    | inl was ↦ elim (s.entries z j w k) [
      | inl were ↦ (let t = kept.two y z i j w ne li lj was were in
          record { kept = t.kept; at = wr.others w (other y i w was) ∙ t.at; are = t.are })
      | inr (e, side) ↦ absurd (other y i w was e)
    ]
    | inr (e, side) ↦ elim (s.entries z j w k) [
      | inl were ↦ absurd (other z j w were e)
      | inr (f, sides) ↦ subst (λ t. HasListPlaces after t i j) (sym e) (both y z i j ne li lj side sides)
    ]
  ];
  covered = λ y lt. (let e = s.capacities y in let c = kept.covered y (omega arith) in let l = wr.size in omega arith);
}
  where
    other : (y i w : ℕ) → StandsAt old y i w → w ≢ u
    other y i w at e =
        let n = stands_counted old y i w at in
        let z = absent y in
        let f : tally old y w ≡ tally old y u = ap (tally old y) e in
        omega arith

    both : (y z i j : ℕ) → y ≢ z → short ≤ i → short ≤ j → ((y ≡ v) × (i ≡ p.first)) ⊎ ((y ≡ x) × (i ≡ p.second))
        → ((z ≡ v) × (j ≡ p.first)) ⊎ ((z ≡ x) × (j ≡ p.second)) → HasListPlaces after u i j
    both y z i j ne li lj a b = elim a [
      | inl (f, g) ↦ elim b [
        | inl (h, k) ↦ absurd (ne (f ∙ sym h))
        | inr (h, k) ↦ record { kept = p; at = wr.here (inl (omega arith)); are = inl (sym g, sym k) }
      ]
      | inr (f, g) ↦ elim b [
        | inl (h, k) ↦ record { kept = p; at = wr.here (inr (omega arith)); are = inr (sym k, sym g) }
        | inr (h, k) ↦ absurd (ne (f ∙ sym h))
      ]
    ]

-- where no list changes and nothing is lost of the table
pub kept_extended : (old new : List GateList) (before after : List Places) → KeepsLists old new → Extends before after
    → ((v : ℕ) → short < capacity_at new v → length new ≤ length after) → AreKept old before → AreKept new after
kept_extended old new before after k e covered kept = record {
  one = λ v i w le h. (let p = kept.one v i w le (was v i w h) in
      record { kept = p.kept; at = e.same w p.kept p.at; is = p.is });
  two = λ v x i j w ne li lj h g. (let p = kept.two v x i j w ne li lj (was v i w h) (was x j w g) in
      record { kept = p.kept; at = e.same w p.kept p.at; are = p.are });
  covered = covered;
}
  where
    was : (v i w : ℕ) → StandsAt new v i w → StandsAt old v i w
    was v i w h = subst (λ (xs : List ℕ). slice_get xs i ≡ Some w) (kept_items old new k v) h

pub kept_more : (slots : List GateList) (before after : List Places) → Extends before after → AreKept slots before
    → AreKept slots after
kept_more slots before after e kept = record {
  one = λ v i w le h. (let p = kept.one v i w le h in
      record { kept = p.kept; at = e.same w p.kept p.at; is = p.is });
  two = λ v x i j w ne li lj h g. (let p = kept.two v x i j w ne li lj h g in
      record { kept = p.kept; at = e.same w p.kept p.at; are = p.are });
  covered = λ v lt. (let c = kept.covered v lt in let l = e.size in omega arith);
}

-- where a list got room, and there are places if it may be long
pub kept_roomy : (slots new : List GateList) (v : ℕ) (before after : List Places) → v < length slots
    → GetsRoom v slots new → Extends before after → (short < 2 * length (items_at slots v) → length slots ≤ length after)
    → AreKept slots before → AreKept new after
kept_roomy slots new v before after within g e covers kept =
    kept_extended slots new before after (gets_keeps slots new v within g) e
    (subst (λ ls. (y : ℕ) → short < capacity_at ls y → length ls ≤ length after) (sym g.list) covered) kept
  where
    list : GateList
    list = record { items = items_at slots v; capacity = g.capacity }

    covered : (y : ℕ) → short < capacity_at (set slots v list) y → length (set slots v list) ≤ length after
    covered y lt =
        let size = length-set slots v list in
        let more = e.size in
        elim (cases_eq y v) [
          | inl f ↦
              (let cap : capacity_at (set slots v list) y ≡ g.capacity =
              ap (λ z. capacity_at (set slots v list) z) f
              ∙ ap (λ (s : GateList). s.capacity) (here_is slots v list within) in
              let doubled = g.doubled in
              elim (cases_lt short (capacity_at slots v)) [
                | inl long ↦ (let c = kept.covered v long in omega arith)
                | inr le ↦ (let c = covers (omega arith) in omega arith)
              ])
          | inr ne ↦
              (let same = ap (λ (s : GateList). s.capacity) (other_is slots v list within y ne) in
              let c = kept.covered y (omega arith) in
              omega arith)
        ]

-- one more empty list
pub items_pushed : (slots : List GateList) (s : GateList) → s.items ≡ [] → (y : ℕ)
    → items_at (slots ++ s ∷ []) y ≡ items_at slots y
items_pushed [] s e zero = e
items_pushed [] s e (suc y) = refl
items_pushed (t ∷ ts) s e zero = refl
items_pushed (t ∷ ts) s e (suc y) = items_pushed ts s e y

capacity_pushed : (slots : List GateList) (s : GateList) (n y : ℕ) → s.capacity ≤ n
    → n < capacity_at (slots ++ s ∷ []) y → n < capacity_at slots y
capacity_pushed [] s n zero le h = absurd (omega arith)
capacity_pushed [] s n (suc y) le h = h
capacity_pushed (t ∷ ts) s n zero le h = h
capacity_pushed (t ∷ ts) s n (suc y) le h = capacity_pushed ts s n y le h

-- an empty list with little room, where the table is long enough
pub kept_pushed : (slots : List GateList) (s : GateList) (places : List Places) → s.items ≡ []
    → s.capacity ≤ short → ((v : ℕ) → short < capacity_at slots v → length slots + 1 ≤ length places)
    → AreKept slots places → AreKept (slots ++ s ∷ []) places
kept_pushed slots s places empty_yet small covers kept = record {
  one = λ v i w le h. kept.one v i w le (was v i w h);
  two = λ v x i j w ne li lj h g. kept.two v x i j w ne li lj (was v i w h) (was x j w g);
  covered = λ v lt. (let c = covers v (capacity_pushed slots s short v small lt) in
      let long = length_push slots s in omega arith);
}
  where
    was : (v i w : ℕ) → StandsAt (slots ++ s ∷ []) v i w → StandsAt slots v i w
    was v i w h = subst (λ (xs : List ℕ). slice_get xs i ≡ Some w) (items_pushed slots s empty_yet v) h

-- a list with room is there
pub capacity_within : (slots : List GateList) (n v : ℕ) → n < capacity_at slots v → v < length slots
capacity_within [] n v h = absurd (omega arith)
capacity_within (s ∷ ss) n zero h = omega arith
capacity_within (s ∷ ss) n (suc v) h = let lt = capacity_within ss n v h in omega arith

pub tidy_same : (old new : List GateList) → ((y : ℕ) → items_at new y ≡ items_at old y)
    → length old ≤ length new → length new ≤ limit + 1 → AreTidy old → AreTidy new
tidy_same old new same longer small t = record {
  once = λ v w. subst (λ n. n ≤ 1) (sym (tally_same v w)) (t.once v w);
  few = λ v x y w a b c. t.few v x y w (subst (λ n. 1 ≤ n) (tally_same v w) a) (subst (λ n. 1 ≤ n) (tally_same x w) b)
      (subst (λ n. 1 ≤ n) (tally_same y w) c);
  within = λ v w a. (let k = t.within v w (subst (λ n. 1 ≤ n) (tally_same v w) a) in omega arith);
  size = small;
}
  where
    tally_same : (v w : ℕ) → tally new v w ≡ tally old v w
    tally_same v w = ap (λ xs. count_by (nat_eq w) xs) (same v)

-- no list is long, and none has an entry
pub kept_none : (slots : List GateList) (places : List Places) → ((v w : ℕ) → tally slots v w ≡ 0)
    → ((y : ℕ) → capacity_at slots y ≤ short) → AreKept slots places
kept_none slots places none_yet few = record {
  one = λ v i w le h. absurd (let n = stands_counted slots v i w h in let z = none_yet v w in omega arith);
  two = λ v x i j w ne li lj h g. absurd (let n = stands_counted slots v i w h in let z = none_yet v w in omega arith);
  covered = λ v lt. absurd (let f = few v in omega arith);
}

-- an entry that came from the end has a place
pub moved_within : (xs : List ℕ) (places : List Places) (i d : ℕ)
    → ((j w : ℕ) → short ≤ j → slice_get xs j ≡ Some w → HasPlace places w j) → i < length xs
    → length (swap_remove xs i d) + 1 ≡ length xs → short ≤ i → i < length (swap_remove xs i d)
    → get_or (swap_remove xs i d) i 0 < length places
moved_within xs places i d has within size long lt =
    let w = get_or (swap_remove xs i d) i 0 in
    let at = removed_here xs i d w within (slice_get-get_or (swap_remove xs i d) i 0 lt) in
    let p = has (length xs - 1) w (omega arith) at in
    slice_get_within places w p.kept p.at

pub follows_removed : (xs : List ℕ) (before after : List Places) (i d : ℕ) → i < length xs
    → length (swap_remove xs i d) + 1 ≡ length xs
    → (short ≤ i → i < length (swap_remove xs i d)
    → RenewsPlace (get_or (swap_remove xs i d) i 0) (length (swap_remove xs i d)) i before after)
    → (i < short → after ≡ before) → (length (swap_remove xs i d) ≤ i → after ≡ before)
    → StaysOrShifts xs (swap_remove xs i d) before after
follows_removed xs before after i d within size moved first last = elim (cases_lt i short) [
  | inl lt ↦ inl (record {
    list = λ j w le h. removed_other xs i j d w (λ e. absurd (omega arith)) h;
    places = first lt;
  })
  | inr long ↦ elim (cases_lt i (length (swap_remove xs i d))) [
    | inl lt ↦ inr (
      get_or (swap_remove xs i d) i 0,
      length (swap_remove xs i d),
      i,
      record {
        was = subst (λ n. slice_get xs n ≡ Some (get_or (swap_remove xs i d) i 0)) (omega arith)
            (removed_here xs i d (get_or (swap_remove xs i d) i 0) within
            (slice_get-get_or (swap_remove xs i d) i 0 lt));
        long = omega arith;
        here = slice_get-get_or (swap_remove xs i d) i 0 lt;
        others = λ j x ne h. removed_other xs i j d x ne h;
        renews = moved long lt;
      },
    )
    | inr past ↦ inl (record {
      list = λ j w le h. removed_other xs i j d w
          (λ e. (let k = slice_get_within (swap_remove xs i d) j w h in absurd (omega arith))) h;
      places = last past;
    })
  ]
]

pub count_none : (w : ℕ) (xs : List ℕ) → ((i : ℕ) → slice_get xs i ≢ Some w) → count_by (nat_eq w) xs ≡ 0
count_none w xs never = elim (cases_eq (count_by (nat_eq w) xs) 0) [
  | inl e ↦ e
  | inr ne ↦
      (let (k, lt, at) = Contains-of_count w xs (omega arith) in
      absurd (never k (slice_get-get_or xs k w lt ∙ ap Some at)))
]
