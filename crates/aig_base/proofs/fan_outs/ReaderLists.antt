-- The lists of readers: what taking out, adding and making room do to how often a gate stands in a list.
use Rattle.std.proofs.Common.{◌≡◌, ◌≢◌, ◌⊎◌, ◌↔◌, inl, inr, ℕ, zero, suc, ◌+◌, ◌-◌, ◌<◌, ◌≤◌, List, [], ◌∷◌, ◌++◌}
use Rattle.std.proofs.Common.{length, map, get_or, set, true, cond, nat_eq, nat_lt, count_by, Contains, slice_get, Some}
use Rattle.std.proofs.Common.{refl, sym, ◌∙◌, ap, subst, arith, swap_remove, get_or-set_other}
use Rattle.std.proofs.Common.{get_or-set_same, length-set}
use Rattle.std.proofs.lemmas.Bool.{cases_eq, eq-eqb, ne_eqb}
use Rattle.std.proofs.lemmas.List.{length-map}
use Rattle.std.proofs.lemmas.Bool.Decides.{nat_tests}
use Rattle.std.proofs.lemmas.List.Sums.{sum_by-swap_remove, sum_by-cons}
use Rattle.std.proofs.lemmas.Option.{slice_get_read, get_or_from_slice_get, slice_get_within, slice_get-get_or}
use Rattle.std.proofs.lemmas.Option.{same_Some, none-some}
use Rattle.aig_parts.specs.declared.gate.Gate.{Gate}
use Rattle.aig_parts.specs.declared.raw.Raw.{Raw}
use Rattle.aig_base.specs.Changes.{rewired, with_gate}
use Rattle.aig_parts.specs.Literal.{variable}
use Rattle.aig_base.specs.Sections.{IsLeftSide}
use Rattle.aig_base.specs.Sound.{IsSound}
use Rattle.aig_base.proofs.circuits.Gates.{same_gate}
use Rattle.aig_base.proofs.circuits.Places.{gate}
use Rattle.aig_base.proofs.circuits.Roles.{one_place}
use Rattle.aig_base.proofs.checks.Walks.{gate_new, gate_old, kept, rewired_other, rewired_same}
use Rattle.aig_base.specs.Readers.{AreReaders, GateList, HasReaderRoom, KeepsReaders, ReaderLists, ReadsVariable}
use Rattle.aig_base.specs.Readers.{reader_lists, list_of}
use Rattle.aig_base.specs.declared.readers.list_places.Places.{Places}
use Rattle.aig_base.specs.state.GateLists.{GetsRoom}
use Rattle.aig_base.specs.state.ListPlaces.{TakesFrom}
use Rattle.aig_base.specs.state.ReaderSlots.{capacity_at, items_at, no_list, with_items_at, tally, FitsOneReader}
use Rattle.aig_base.specs.state.ReaderSlots.{HasRoom, Loses, TakesOut}
use Rattle.aig_base.specs.state.ReaderSlots.{AddsReader, AddsBoth, MovesReader, KeepsLists, AreTallied, ReadsBefore}

abbrev one : ℕ → ℕ → ℕ
one w x = cond (nat_eq w x) 1 0

pub one_same : (u : ℕ) → one u u ≡ 1
one_same u = rw (eq-eqb u u refl) refl

one_other : (w u : ℕ) → w ≢ u → one w u ≡ 0
one_other w u ne = rw (ne_eqb w u ne) refl

pub count-cons : (w x : ℕ) (xs : List ℕ) → count_by (nat_eq w) (x ∷ xs) ≡ one w x + count_by (nat_eq w) xs
count-cons w x xs = sum_by-cons (one w) x xs

-- an element is counted
pub Contains-of_count : (w : ℕ) (xs : List ℕ) → 1 ≤ count_by (nat_eq w) xs → Contains xs w
Contains-of_count w [] h = absurd (omega arith)
Contains-of_count w (x ∷ xs) h = elim (cases_eq w x) [
  | inl e ↦ (0, omega arith, sym e)
  | inr ne ↦
      (let is = count-cons w x xs in
      let away = one_other w x ne in
      let (k, lt, at) = Contains-of_count w xs (omega arith) in
      (suc k, omega arith, at))
]

pub count-of_get : (w k : ℕ) (xs : List ℕ) → slice_get xs k ≡ Some w → 1 ≤ count_by (nat_eq w) xs
count-of_get w k [] at = absurd (none-some w at)
count-of_get w zero (x ∷ xs) at =
    let is = count-cons w x xs in
    let e : w ≡ x = sym (same_Some x w at) in
    let one_is : one w x ≡ 1 = rw (← e) (one_same w) in
    omega arith
count-of_get w (suc k) (x ∷ xs) at =
    let is = count-cons w x xs in
    let rest = count-of_get w k xs at in
    omega arith

pub count-of_Contains : (w : ℕ) (xs : List ℕ) → Contains xs w → 1 ≤ count_by (nat_eq w) xs
count-of_Contains w xs (k, lt, at) = count-of_get w k xs (slice_get-get_or xs k _ lt ∙ ap Some at)

pub loses_none : (u : ℕ) (xs : List ℕ) → count_by (nat_eq u) xs ≡ 0 → Loses u xs xs
loses_none u xs never = record { here = omega arith; others = λ w ne. refl; shorter = omega arith }

pub loses_at : (u i x : ℕ) (xs : List ℕ) → slice_get xs i ≡ Some u
    → length (swap_remove xs i x) + 1 ≡ length xs → Loses u xs (swap_remove xs i x)
loses_at u i x xs at long = record {
  here = (let e = taken u in let is = one_same u in omega arith);
  others = λ w ne. (let e = taken w in let is = one_other w u ne in omega arith);
  shorter = omega arith;
}
  where
    taken : (w : ℕ) → count_by (nat_eq w) (swap_remove xs i x) + one w u ≡ count_by (nat_eq w) xs
    taken w =
        ap (λ y. count_by (nat_eq w) (swap_remove xs i x) + one w y) (sym (get_or_from_slice_get xs i u x at))
        ∙ sum_by-swap_remove (one w) xs i x (slice_get_within xs i u at)

abbrev count_in : ℕ → GateList → ℕ
count_in w s = count_by (nat_eq w) s.items

map-at : (slots : List GateList) (v : ℕ) (s : GateList) → v < length slots → s.items
    ≡ (get_or slots v no_list).items
    → map (λ t. t.items) (set slots v s) ≡ map (λ t. t.items) slots
map-at [] v s lt e = absurd (omega arith)
map-at (t ∷ ts) zero s lt e = ap (λ (x : List ℕ). x ∷ map (λ t. t.items) ts) e
map-at (t ∷ ts) (suc v) s lt e = ap (λ (xs : List (List ℕ)). t.items ∷ xs) (map-at ts v s (omega arith) e)

module _ (slots : List GateList) (v : ℕ) (new : GateList) (within : v < length slots) where
  pub here_is : get_or (set slots v new) v no_list ≡ new
  here_is = get_or-set_same slots v new no_list within

  pub other_is : (x : ℕ) → x ≢ v → get_or (set slots v new) x no_list ≡ get_or slots x no_list
  other_is x ne = get_or-set_other slots v x new no_list ne

  tally_here : (w : ℕ) → tally (set slots v new) v w ≡ count_in w new
  tally_here w = ap (count_in w) here_is

  tally_other : (x w : ℕ) → x ≢ v → tally (set slots v new) x w ≡ tally slots x w
  tally_other x w ne = ap (count_in w) (other_is x ne)

  fits_other : (x : ℕ) → x ≢ v → FitsOneReader slots x → FitsOneReader (set slots v new) x
  fits_other x ne h = subst (λ (s : GateList). HasRoom s) (sym (other_is x ne)) h

  fits_here : (old : GateList) → get_or slots v no_list ≡ old → length new.items ≤ length old.items
      → old.capacity ≤ new.capacity
      → (x : ℕ) → FitsOneReader slots x → FitsOneReader (set slots v new) x
  fits_here old is shorter more x h = elim (cases_eq x v) [
    | inl e ↦
        (let f : get_or slots x no_list ≡ old = ap (λ y. get_or slots y no_list) e ∙ is in
        let g : get_or (set slots v new) x no_list ≡ new = ap (λ y. get_or (set slots v new) y no_list) e ∙ here_is in
        let k : HasRoom old = subst (λ (s : GateList). HasRoom s) f h in
        let room : HasRoom new = omega arith in
        subst (λ (s : GateList). HasRoom s) (sym g) room)
    | inr ne ↦ fits_other x ne h
  ]

  taken : (u : ℕ) (old : GateList) → get_or slots v no_list ≡ old → tally slots v u ≤ 1
      → Loses u old.items new.items → new.capacity ≡ old.capacity → TakesOut v u slots (set slots v new)
  taken u old is once loses same = record {
    size = length-set slots v new;
    here = tally_here u ∙ loses.here ∙ ap (λ s. count_in u s - 1) (sym is) ∙ omega arith;
    others = λ x w h. elim (cases_eq x v) [
      | inl e ↦
          ap (λ y. tally (set slots v new) y w) e ∙ tally_here w
          ∙ (elim h [ inl ne ↦ absurd (ne e) | inr ne ↦ loses.others w ne ])
          ∙ ap (count_in w) (sym is) ∙ ap (λ y. tally slots y w) (sym e)
      | inr ne ↦ tally_other x w ne
    ];
    room = fits_here old is loses.shorter (omega arith);
  }

  keeps_old : (old : GateList) → get_or slots v no_list ≡ old → new.items ≡ old.items → old.capacity ≤ new.capacity
      → KeepsLists slots (set slots v new)
  keeps_old old is items more = record {
    lists = map-at slots v new within (items ∙ ap (λ (s : GateList). s.items) (sym is));
    room = fits_here old is (let e = ap length items in omega arith) more;
  }

-- a list that was replaced
pub items_with : (slots : List GateList) (v : ℕ) (items : List ℕ) → v < length slots
    → items_at (with_items_at slots v items) v ≡ items
items_with slots v items within =
    ap (λ (s : GateList). s.items) (here_is slots v (record { items = items; capacity = capacity_at slots v }) within)

pub fits_set : (slots new : List GateList) (v : ℕ) (list : GateList) → v < length slots → new ≡ set slots v list
    → HasRoom list → FitsOneReader new v
fits_set slots new v list within is room =
    subst (λ ls. FitsOneReader ls v) (sym is)
    (subst (λ (s : GateList). HasRoom s) (sym (here_is slots v list within)) room)

-- after an entry was taken out of a list
pub takes_out : (old new : List GateList) (v u : ℕ) (before after : List Places) → v < length old → tally old v u ≤ 1
    → TakesFrom v u old new before after → TakesOut v u old new
takes_out old new v u before after within once t =
    subst (λ ls. TakesOut v u old ls) (sym t.list)
    (taken old v (record { items = t.left; capacity = capacity_at old v }) within u (get_or old v no_list) refl once
    t.loses refl)

-- after a list got room
pub gets_keeps : (old new : List GateList) (v : ℕ) → v < length old → GetsRoom v old new → KeepsLists old new
gets_keeps old new v within g =
    subst (λ ls. KeepsLists old ls) (sym g.list)
    (keeps_old old v (record { items = items_at old v; capacity = g.capacity }) within (get_or old v no_list) refl refl
    g.more)

pub list_is : (slots : List GateList) (v : ℕ) → list_of (reader_lists slots) v ≡ items_at slots v
list_is [] v = refl
list_is (s ∷ ss) zero = refl
list_is (s ∷ ss) (suc v) = list_is ss v

-- no list changes
pub kept_items : (old new : List GateList) → KeepsLists old new → (v : ℕ) → items_at new v ≡ items_at old v
kept_items old new k v =
    sym (list_is new v) ∙ ap (λ (xs : List (List ℕ)). get_or xs v []) k.lists ∙ list_is old v

pub kept_size : (old new : List GateList) → KeepsLists old new → length new ≡ length old
kept_size old new k = sym (length-map new (λ s. s.items)) ∙ ap length k.lists ∙ length-map old (λ s. s.items)

pub fits_within : (slots : List GateList) (v : ℕ) → FitsOneReader slots v → v < length slots
fits_within [] v h = absurd (omega arith)
fits_within (s ∷ ss) zero h = omega arith
fits_within (s ∷ ss) (suc v) h = let lt = fits_within ss v h in omega arith

pub items_within : (slots : List GateList) (v i : ℕ) → i < length (items_at slots v) → v < length slots
items_within [] v i h = absurd (omega arith)
items_within (s ∷ ss) zero i h = omega arith
items_within (s ∷ ss) (suc v) i h = let lt = items_within ss v i h in omega arith

lt_test : (a b : ℕ) → a + 1 ≤ b → nat_lt a b ≡ true
lt_test a b h = grind (arith, nat_tests)

lt_tested : (a b : ℕ) → nat_lt a b ≡ true → a + 1 ≤ b
lt_tested a b h = grind (arith, nat_tests)

pub room_of_fits : (slots : List GateList) (v : ℕ) → FitsOneReader slots v → HasReaderRoom (reader_lists slots) v
room_of_fits [] v h = absurd (omega arith)
room_of_fits (s ∷ ss) zero h = ap Some (lt_test (length s.items) s.capacity h)
room_of_fits (s ∷ ss) (suc v) h = room_of_fits ss v h

pub fits_of_room : (slots : List GateList) (v : ℕ) → HasReaderRoom (reader_lists slots) v → FitsOneReader slots v
fits_of_room [] v h = absurd (none-some true h)
fits_of_room (s ∷ ss) zero h = lt_tested (length s.items) s.capacity (same_Some _ true h)
fits_of_room (s ∷ ss) (suc v) h = fits_of_room ss v h

tally_within : (slots : List GateList) (v w : ℕ) → 1 ≤ tally slots v w → v < length slots
tally_within [] v w h = absurd (omega arith)
tally_within (s ∷ ss) zero w h = omega arith
tally_within (s ∷ ss) (suc v) w h = let lt = tally_within ss v w h in omega arith

-- the lists with a count of what stands in them
pub tallied : (raw : Raw) (slots : List GateList) → AreReaders raw (reader_lists slots)
    → AreTallied (raw.max_var + 1) (ReadsVariable raw) slots
tallied raw slots r = record {
  size = size;
  once = λ v w. subst (λ xs. count_by (nat_eq w) xs ≤ 1) (list_is slots v) (r.once v w);
  only = λ v w h. (
      let lt = tally_within slots v w h in
      let sized = size in
      (r.each v w (omega arith)).0
      (subst (λ xs. Contains xs w) (sym (list_is slots v)) (Contains-of_count w (items_at slots v) h)));
  all = λ v w lt p. count-of_Contains w (items_at slots v)
      (subst (λ xs. Contains xs w) (list_is slots v) ((r.each v w (omega arith)).1 p));
}
  where
    size : length slots ≡ raw.max_var + 1
    size = sym (length-map slots (λ s. s.items)) ∙ r.size

pub readers_of : (raw : Raw) (slots : List GateList) → AreTallied (raw.max_var + 1) (ReadsVariable raw) slots
    → AreReaders raw (reader_lists slots)
readers_of raw slots t = record {
  size = length-map slots (λ s. s.items) ∙ t.size;
  each = λ v w le. (
    λ h. t.only v w (count-of_Contains w (items_at slots v) (subst (λ xs. Contains xs w) (list_is slots v) h)),
    λ p. subst (λ xs. Contains xs w) (sym (list_is slots v)) (Contains-of_count w (items_at slots v) (t.all v w
        (omega arith) p)),
  );
  once = λ v w. subst (λ xs. count_by (nat_eq w) xs ≤ 1) (sym (list_is slots v)) (t.once v w);
}

-- one more in two lists, where the first call took place and the second only if the lists are two
pub adds_two : (v x u : ℕ) (old mid new : List GateList) → x ≢ v → AddsReader v u old mid → AddsReader x u mid new
    → AddsBoth v x u old new
adds_two v x u old mid new ne a b = record {
  size = b.size ∙ a.size;
  here = λ y h. elim h [
    | inl e ↦ rw e (b.others v u (inl (λ k. ne (sym k))) ∙ a.here)
    | inr e ↦ rw e (b.here ∙ ap (λ n. n + 1) (a.others x u (inl ne)))
  ];
  away = λ y n0 n1. b.others y u (inl n1) ∙ a.others y u (inl n0);
  others = λ y w apart. b.others y w (inr apart) ∙ a.others y w (inr apart);
}

pub adds_once : (v x u : ℕ) (old new : List GateList) → x ≡ v → AddsReader v u old new → AddsBoth v x u old new
adds_once v x u old new e a = record {
  size = a.size;
  here = λ y h. elim h [
    | inl f ↦ rw f a.here
    | inr f ↦ rw (f, e) a.here
  ];
  away = λ y n0 n1. a.others y u (inl n0);
  others = λ y w apart. a.others y w (inr apart);
}

-- a gate stands in the lists of its sides alone
pub unread : (raw : Raw) → IsSound raw → (q : ℕ) (g : Gate) → slice_get raw.gates q ≡ Some g
    → (old : List GateList) → AreTallied (raw.max_var + 1) (ReadsVariable raw) old
    → (v : ℕ) → v ≢ variable g.rhs0 → v ≢ variable g.rhs1 → tally old v (variable g.lhs) ≡ 0
unread raw sound q g at old t v n0 n1 = elim (cases_eq (tally old v (variable g.lhs)) 0) [
  | inl e ↦ e
  | inr ne ↦
      (let (k, h, here, same, side) = t.only v (variable g.lhs) (omega arith) in
      let one : h ≡ g = same_gate raw sound k q h g here at same in
      elim side [
        | inl e ↦ absurd (n0 (sym e ∙ ap (λ (x : Gate). variable x.rhs0) one))
        | inr e ↦ absurd (n1 (sym e ∙ ap (λ (x : Gate). variable x.rhs1) one))
      ])
]

-- a gate that was taken out of the two lists where it stood stands nowhere
pub gone_after : (slots mid new : List GateList) (a b u : ℕ) → TakesOut a u slots mid → TakesOut b u mid new
    → ((v : ℕ) → v ≢ a → v ≢ b → tally slots v u ≡ 0) → (v : ℕ) → tally new v u ≡ 0
gone_after slots mid new a b u out0 out1 elsewhere v = elim (cases_eq v b) [
  | inl f ↦ ap (λ x. tally new x u) f ∙ out1.here
  | inr n1 ↦
      out1.others v u (inl n1)
      ∙ (elim (cases_eq v a) [
        | inl e ↦ ap (λ x. tally mid x u) e ∙ out0.here
        | inr n0 ↦ out0.others v u (inl n0) ∙ elsewhere v n0 n1
      ])
]

-- after a gate was moved the lists are those of the circuit with its new sides
module _ (raw : Raw) (sound : IsSound raw) (lhs r0 r1 : ℕ) (is_gate : IsLeftSide raw lhs) (q : ℕ) (g : Gate)
    (at : slice_get raw.gates q ≡ Some g) (is : g.lhs ≡ lhs) (old new : List GateList)
    (t : AreTallied (raw.max_var + 1) (ReadsVariable raw) old)
    (m : MovesReader (variable g.rhs0) (variable g.rhs1) (variable r0) (variable r1) (variable g.lhs) old new) where
  abbrev u : ℕ
  u = variable g.lhs

  between : (v w : ℕ) → w ≢ u → tally m.second v w ≡ tally old v w
  between v w ne = m.out1.others v w (inr ne) ∙ m.out0.others v w (inr ne)

  gone : (v : ℕ) → tally m.second v u ≡ 0
  gone = gone_after old m.first m.second (variable g.rhs0) (variable g.rhs1) u m.out0 m.out1
      (unread raw sound q g at old t)

  tally_kept : (v w : ℕ) → w ≢ u → tally new v w ≡ tally old v w
  tally_kept v w ne = m.both.others v w ne ∙ between v w ne

  tally_on : (v : ℕ) → (v ≡ variable r0) ⊎ (v ≡ variable r1) → tally new v u ≡ 1
  tally_on v h = m.both.here v h ∙ ap (λ n. n + 1) (gone v)

  tally_away : (v : ℕ) → v ≢ variable r0 → v ≢ variable r1 → tally new v u ≡ 0
  tally_away v n0 n1 = m.both.away v n0 n1 ∙ gone v

  new_at : slice_get (map (rewired lhs r0 r1) raw.gates) q ≡ Some (record { lhs = g.lhs; rhs0 = r0; rhs1 = r1 })
  new_at = gate_new raw sound lhs r0 r1 is_gate q g at ∙ ap Some (rewired_same lhs r0 r1 g is)

  same_variable : (w : ℕ) → w ≢ u → w ≢ variable lhs
  same_variable w ne e = ne (e ∙ ap variable (sym is))

  on_new : (v : ℕ) → 1 ≤ tally new v u → (variable r0 ≡ v) ⊎ (variable r1 ≡ v)
  on_new v h = elim (cases_eq v (variable r0)) [
    | inl e ↦ inl (sym e)
    | inr n0 ↦ elim (cases_eq v (variable r1)) [
      | inl e ↦ inr (sym e)
      | inr n1 ↦ absurd (let z = tally_away v n0 n1 in omega arith)
    ]
  ]

  only_new : (v w : ℕ) → 1 ≤ tally new v w → ReadsVariable (with_gate raw lhs r0 r1) w v
  only_new v w h = elim (cases_eq w u) [
    | inl e ↦ (
      q,
      record { lhs = g.lhs; rhs0 = r0; rhs1 = r1 },
      new_at,
      sym e,
      on_new v (subst
          (λ x. 1 ≤ tally new v x) e h),
    )
    | inr ne ↦
        (let same = tally_kept v w ne in
        let (k, x, here, left, side) = t.only v w (omega arith) in
        (k, x, kept raw sound lhs r0 r1 is_gate k x here (λ e. same_variable w ne (sym left ∙ e)), left, side))
  ]

  all_new : (v w : ℕ) → v < raw.max_var + 1 → ReadsVariable (with_gate raw lhs r0 r1) w v → 1 ≤ tally new v w
  all_new v w lt (k, x, here, left, side) =
      let (h, there, same) = gate_old raw sound lhs r0 r1 is_gate k x here in
      let hl : variable h.lhs ≡ w = ap (λ (y : Gate). variable y.lhs) same ∙ left in
      elim (cases_eq w u) [
        | inl e ↦
            (let one : h ≡ g = same_gate raw sound k q h g there at (hl ∙ e) in
            let f : record { lhs = h.lhs; rhs0 = r0; rhs1 = r1 } ≡ x =
            sym (rewired_same lhs r0 r1 h (ap (λ (y : Gate). y.lhs) one ∙ is)) ∙ same in
            let on : (v ≡ variable r0) ⊎ (v ≡ variable r1) = elim side [
              | inl s ↦ inl (sym s ∙ ap (λ (y : Gate). variable y.rhs0) (sym f))
              | inr s ↦ inr (sym s ∙ ap (λ (y : Gate). variable y.rhs1) (sym f))
            ] in
            let is1 = tally_on v on in
            subst (λ z. 1 ≤ tally new v z) (sym e) (omega arith))
        | inr ne ↦
            (let f : h ≡ x = sym (rewired_other lhs r0 r1 h (λ e. same_variable w ne (sym hl ∙ ap variable e)))
            ∙ same in
            let reads : ReadsVariable raw w v = (k, x, subst (λ y. slice_get raw.gates k ≡ Some y) f there, left, side) in
            let was = t.all v w lt reads in
            let same_tally = tally_kept v w ne in
            omega arith)
      ]

  pub moved : AreTallied (raw.max_var + 1) (ReadsVariable (with_gate raw lhs r0 r1)) new
  moved = record {
    size = m.both.size ∙ m.out1.size ∙ m.out0.size ∙ t.size;
    once = λ v w. elim (cases_eq w u) [
      | inl e ↦ elim (cases_eq v (variable r0)) [
        | inl f ↦ (let is1 = tally_on v (inl f) in subst (λ z. tally new v z ≤ 1) (sym e) (omega arith))
        | inr n0 ↦ elim (cases_eq v (variable r1)) [
          | inl f ↦ (let is1 = tally_on v (inr f) in subst (λ z. tally new v z ≤ 1) (sym e) (omega arith))
          | inr n1 ↦ (let is0 = tally_away v n0 n1 in subst (λ z. tally new v z ≤ 1) (sym e) (omega arith))
        ]
      ]
      | inr ne ↦ (let o = t.once v w in let same = tally_kept v w ne in omega arith)
    ];
    only = only_new;
    all = all_new;
  }

-- a gate variable stands on the left side of one gate
gate_position : (raw : Raw) → IsSound raw → (q i : ℕ) (h g : Gate) → slice_get raw.gates q ≡ Some h
    → slice_get raw.gates i ≡ Some g
    → variable h.lhs ≡ variable g.lhs → q ≡ i
gate_position raw sound q i h g here at e =
    let same : gate q ≡ gate i = one_place raw sound (gate q) (gate i) h.lhs g.lhs tt tt (h, here, refl)
    (g, at, refl) e in
    cc

-- before the first gate
pub tallied_none : (raw : Raw) (slots : List GateList) → length slots ≡ raw.max_var + 1
    → ((v w : ℕ) → tally slots v w ≡ 0) → AreTallied (raw.max_var + 1) (ReadsBefore raw 0) slots
tallied_none raw slots size none_yet = record {
  size = size;
  once = λ v w. (let z = none_yet v w in omega arith);
  only = λ v w h. absurd (let z = none_yet v w in omega arith);
  all = λ v w lt p. (let (q, g, below, at, left, side) = p in absurd (omega arith));
}

pub tallied_all : (raw : Raw) (n : ℕ) (slots : List GateList) → length raw.gates ≤ n
    → AreTallied (raw.max_var + 1) (ReadsBefore raw n) slots → AreTallied (raw.max_var + 1) (ReadsVariable raw) slots
tallied_all raw n slots past t = record {
  size = t.size;
  once = t.once;
  only = λ v w h. (let (q, g, below, at, left, side) = t.only v w h in (q, g, at, left, side));
  all = λ v w lt p. (let (q, g, at, left, side) = p in
      let within = slice_get_within raw.gates q g at in
      t.all v w lt (q, g, omega arith, at, left, side));
}

-- before a gate was listed it stands nowhere
pub unlisted : (raw : Raw) → IsSound raw → (i : ℕ) (g : Gate) → slice_get raw.gates i ≡ Some g
    → (old : List GateList) → AreTallied (raw.max_var + 1) (ReadsBefore raw i) old
    → (v : ℕ) → tally old v (variable g.lhs) ≡ 0
unlisted raw sound i g at old t v = elim (cases_eq (tally old v (variable g.lhs)) 0) [
  | inl e ↦ e
  | inr ne ↦
      (let (q, h, below, here, same, side) = t.only v (variable g.lhs) (omega arith) in
      let one_place : q ≡ i = gate_position raw sound q i h g here at same in
      absurd (omega arith))
]

-- one gate more
module _ (raw : Raw) (sound : IsSound raw) (i : ℕ) (g : Gate) (at : slice_get raw.gates i ≡ Some g)
    (old mid new : List GateList) (t : AreTallied (raw.max_var + 1) (ReadsBefore raw i) old) (k : KeepsLists old mid)
    (b : AddsBoth (variable g.rhs0) (variable g.rhs1) (variable g.lhs) mid new) where
  same_tally : (v w : ℕ) → tally mid v w ≡ tally old v w
  same_tally v w = ap (λ xs. count_by (nat_eq w) xs) (kept_items old mid k v)

  on_more : (v : ℕ) → (v ≡ variable g.rhs0) ⊎ (v ≡ variable g.rhs1) → tally new v (variable g.lhs) ≡ 1
  on_more v h = b.here v h ∙ ap (λ n. n + 1) (same_tally v (variable g.lhs) ∙ unlisted raw sound i g at old t v)

  away_more : (v : ℕ) → v ≢ variable g.rhs0 → v ≢ variable g.rhs1 → tally new v (variable g.lhs) ≡ 0
  away_more v n0 n1 = b.away v n0 n1 ∙ same_tally v (variable g.lhs) ∙ unlisted raw sound i g at old t v

  other_more : (v w : ℕ) → w ≢ variable g.lhs → tally new v w ≡ tally old v w
  other_more v w ne = b.others v w ne ∙ same_tally v w

  once_more : (v w : ℕ) → tally new v w ≤ 1
  once_more v w = elim (cases_eq w (variable g.lhs)) [
    | inl e ↦ subst (λ z. tally new v z ≤ 1) (sym e)
        (elim (cases_eq v (variable g.rhs0)) [
          | inl f ↦ (let is1 = on_more v (inl f) in omega arith)
          | inr n0 ↦ elim (cases_eq v (variable g.rhs1)) [
            | inl f ↦ (let is1 = on_more v (inr f) in omega arith)
            | inr n1 ↦ (let is0 = away_more v n0 n1 in omega arith)
          ]
        ])
    | inr ne ↦ (let o = t.once v w in let same = other_more v w ne in omega arith)
  ]

  only_more : (v w : ℕ) → 1 ≤ tally new v w → ReadsBefore raw (i + 1) w v
  only_more v w h = elim (cases_eq w (variable g.lhs)) [
    | inl e ↦ (i, g, omega arith, at, sym e, side v (subst (λ z. 1 ≤ tally new v z) e h))
    | inr ne ↦
        (let same = other_more v w ne in
        let (q, x, below, here, left, reads) = t.only v w (omega arith) in
        (q, x, omega arith, here, left, reads))
  ]
    where
      side : (y : ℕ) → 1 ≤ tally new y (variable g.lhs) → (variable g.rhs0 ≡ y) ⊎ (variable g.rhs1 ≡ y)
      side y k1 = elim (cases_eq y (variable g.rhs0)) [
        | inl f ↦ inl (sym f)
        | inr n0 ↦ elim (cases_eq y (variable g.rhs1)) [
          | inl f ↦ inr (sym f)
          | inr n1 ↦ absurd (let is0 = away_more y n0 n1 in omega arith)
        ]
      ]

  all_more : (v w : ℕ) → v < raw.max_var + 1 → ReadsBefore raw (i + 1) w v → 1 ≤ tally new v w
  all_more v w lt (q, x, below, here, left, side) = elim (cases_eq w (variable g.lhs)) [
    | inl e ↦
        (let one_gate : x ≡ g = same_gate raw sound q i x g here at (left ∙ e) in
        let on : (v ≡ variable g.rhs0) ⊎ (v ≡ variable g.rhs1) = elim side [
          | inl s ↦ inl (sym s ∙ ap (λ (y : Gate). variable y.rhs0) one_gate)
          | inr s ↦ inr (sym s ∙ ap (λ (y : Gate). variable y.rhs1) one_gate)
        ] in
        let is1 = on_more v on in
        subst (λ z. 1 ≤ tally new v z) (sym e) (omega arith))
    | inr ne ↦
        (let other : q ≢ i = (λ e. ne (sym left ∙ ap (λ (y : Gate). variable y.lhs)
        (same_Some x g (sym here ∙ ap (slice_get raw.gates) e ∙ at)))) in
        let was = t.all v w lt (q, x, omega arith, here, left, side) in
        let same = other_more v w ne in
        omega arith)
  ]

  pub tallied_more : AreTallied (raw.max_var + 1) (ReadsBefore raw (i + 1)) new
  tallied_more = record {
    size = b.size ∙ kept_size old mid k ∙ t.size;
    once = once_more;
    only = only_more;
    all = all_more;
  }

pub gate_at : (raw : Raw) (gates : List Gate) (i : ℕ) (g : Gate) → gates ≡ raw.gates → i < length gates → g
    ≡ get_or gates i g
    → slice_get raw.gates i ≡ Some g
gate_at raw gates i g same lt at = subst (λ gs. slice_get gs i ≡ Some g) same (slice_get_read gates
    (length gates) i g refl lt at)

-- what keeps the lists of slots keeps those that contracts see
pub keeps_readers : (old new : List GateList) (r : ReaderLists) → reader_lists old ≡ r → KeepsLists old new
    → KeepsReaders r (reader_lists new)
keeps_readers old new r is k = record {
  lists = k.lists ∙ ap (λ (x : ReaderLists). x.lists) is;
  room = λ v h. room_of_fits new v (k.room v (fits_of_room old v (subst (λ x. HasReaderRoom x v) (sym is) h)));
}

-- lists that did not change are readers still
pub readers_kept : (raw : Raw) (old new : ReaderLists) → AreReaders raw old → new.lists ≡ old.lists → AreReaders raw new
readers_kept raw old new h e = record {
  size = ap length e ∙ h.size;
  each = λ v w le. subst (λ (ls : List (List ℕ)). Contains (get_or ls v []) w ↔ ReadsVariable raw w v) (sym e)
      (h.each v w le);
  once = λ v w. subst (λ (ls : List (List ℕ)). count_by (nat_eq w) (get_or ls v []) ≤ 1) (sym e) (h.once v w);
}

pub fits_now : (slots : List GateList) (r : ReaderLists) → reader_lists slots ≡ r → (v : ℕ) → HasReaderRoom r v
    → FitsOneReader slots v
fits_now slots r is v h = fits_of_room slots v (subst (λ x. HasReaderRoom x v) (sym is) h)

pub slots_long : (slots : List GateList) (r : ReaderLists) → reader_lists slots ≡ r
    → length slots ≡ length r.lists
slots_long slots r is = sym (length-map slots (λ s. s.items)) ∙ ap (λ (x : ReaderLists). length x.lists) is

pub slots_size : (raw : Raw) (slots : List GateList) (r : ReaderLists) → reader_lists slots ≡ r → AreReaders raw r
    → length slots ≡ raw.max_var + 1
slots_size raw slots r is readers = slots_long slots r is ∙ readers.size

-- an empty list after the last
pub push_same : (slots : List GateList) (s : GateList) → s.items ≡ [] → (v w : ℕ) → tally (slots ++ s ∷ []) v w
    ≡ tally slots v w
push_same [] s e zero w = ap (λ xs. count_by (nat_eq w) xs) e
push_same [] s e (suc v) w = refl
push_same (t ∷ ts) s e zero w = refl
push_same (t ∷ ts) s e (suc v) w = push_same ts s e v w

pub fits_pushed : (slots : List GateList) (s : GateList) (v : ℕ) → FitsOneReader slots v → FitsOneReader (slots ++ s ∷ []) v
fits_pushed [] s v h = absurd (omega arith)
fits_pushed (t ∷ ts) s zero h = h
fits_pushed (t ∷ ts) s (suc v) h = fits_pushed ts s v h
