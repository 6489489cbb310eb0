-- Lists of gates in place and far ones: what a write to one of them does.
use Rattle.std.proofs.Common.{◌≡◌, ◌≢◌, inl, inr, ℕ, zero, suc, ◌-◌, ◌*◌, ◌<◌, ◌≤◌, max, List, [], ◌∷◌, ◌++◌}
use Rattle.std.proofs.Common.{length, map, get_or, set, take, replicate, slice_get, Some, refl, sym, ◌∙◌, ap, subst}
use Rattle.std.proofs.Common.{arith, swap_remove, length-set, length-take}
use Rattle.std.proofs.lemmas.Bool.{cases_eq, eq-eqb, ne_eqb}
use Rattle.std.proofs.lemmas.List.{get_or_default, get_or_push, map-set, set-get_or, take_all}
use Rattle.std.proofs.lemmas.List.{get_or-set_same, get_or-set_other, get_or_append_left, get_or-map, length_push}
use Rattle.std.proofs.lemmas.List.{length-map}
use Rattle.std.proofs.lemmas.Option.{slice_get_read, slice_get_within, slice_get-get_or, none-some, same_Some}
use Rattle.smallvec.specs.SmallVec.{SmallVec}
use Rattle.aig_base.specs.declared.readers.slot_table.Slot.{Slot}
use Rattle.aig_base.specs.Readers.{GateList}
use Rattle.aig_base.specs.state.GateLists.{AreSlots, GetsRoom, IsFar, far_list, near_list, no_gates, position, slot_list}
use Rattle.aig_base.specs.state.ReaderSlots.{capacity_at, items_at, no_list, with_items_at}
use Rattle.aig_base.proofs.lists.Gets.{slice_get-set_same, slice_get-set_other, slice_get_push}

-- the images of a list under two functions
module _ {X Y : Type 0} (f g : X → Y) where
  pub map_same : (xs : List X) → ((k : ℕ) (x : X) → slice_get xs k ≡ Some x → g x ≡ f x) → map g xs ≡ map f xs
  map_same [] same = refl
  map_same (x ∷ xs) same =
      ap (λ y. y ∷ map g xs) (same 0 x refl) ∙ ap (λ ys. f x ∷ ys) (map_same xs (λ k y h. same (suc k) y h))

  -- where the image of one element alone changes
  pub map_changed : (xs : List X) (v : ℕ) (y : Y) → ((k : ℕ) (x : X) → k ≢ v → slice_get xs k ≡ Some x → g x ≡ f x)
      → ((x : X) → slice_get xs v ≡ Some x → g x ≡ y) → map g xs ≡ set (map f xs) v y
  map_changed [] v y others here = refl
  map_changed (x ∷ xs) zero y others here =
      ap (λ z. z ∷ map g xs) (here x refl)
      ∙ ap (λ ys. y ∷ ys) (map_same xs (λ k z h. others (suc k) z (λ e. (let z : ⊥ = omega arith in z)) h))
  map_changed (x ∷ xs) (suc v) y others here =
      ap (λ z. z ∷ map g xs) (others 0 x (λ e. (let z : ⊥ = omega arith in z)) refl)
      ∙ ap (λ ys. f x ∷ ys) (map_changed xs v y (λ k z ne h. others (suc k) z (λ e. ne (omega arith)) h) here)

pub get_map : {X Y : Type 0} (f : X → Y) (xs : List X) (v : ℕ) (x : X) (d : Y) → slice_get xs v ≡ Some x
    → get_or (map f xs) v d ≡ f x
get_map f [] v x d h = absurd (none-some x h)
get_map f (y ∷ xs) zero x d h = ap f (same_Some y x h)
get_map f (y ∷ xs) (suc v) x d h = get_map f xs v x d h

pub map_replicate : {X Y : Type 0} (f : X → Y) (n : ℕ) (x : X) → map f (replicate n x) ≡ replicate n (f x)
map_replicate f zero x = refl
map_replicate f (suc n) x = ap (λ ys. f x ∷ ys) (map_replicate f n x)

pub get_replicate : {X : Type 0} (n k : ℕ) (x y : X) → slice_get (replicate n x) k ≡ Some y → x ≡ y
get_replicate zero k x y h = absurd (none-some y h)
get_replicate (suc n) zero x y h = same_Some x y h
get_replicate (suc n) (suc k) x y h = get_replicate n k x y h

pub near_slot : (far : List GateList) (s : Slot) → s.count ≢ 5 → slot_list far s ≡ near_list s
near_slot far s ne = rw (ne_eqb s.count 5 ne) refl

pub far_slot : (far : List GateList) (s : Slot) → s.count ≡ 5 → slot_list far s ≡ get_or far (position s) no_list
far_slot far s e = rw (eq-eqb s.count 5 e) refl

-- a slot that was read
pub slot_at : (far : List GateList) (slots : List Slot) (v : ℕ) (s : Slot) → v < length (map (slot_list far) slots)
    → s ≡ get_or slots v s → slice_get slots v ≡ Some s
slot_at far slots v s lt read =
    slice_get_read slots (length slots) v s refl (let e = length-map slots (slot_list far) in omega arith) read

-- the slot that is there
pub slot_there : (far : List GateList) (slots : List Slot) (v : ℕ) → v < length (map (slot_list far) slots)
    → slice_get slots v ≡ Some (get_or slots v no_gates)
slot_there far slots v lt =
    slice_get-get_or slots v no_gates (let e = length-map slots (slot_list far) in omega arith)

-- it has four gates at most if it is not far
pub slot_few : (far : List GateList) (slots : List Slot) (v : ℕ) (s : Slot) → slice_get slots v ≡ Some s
    → AreSlots far slots → s.count ≢ 5 → s.count ≤ 4
slot_few far slots v s at are ne = let le = are.counts v s at in omega arith

-- the list of a slot that has it in place
pub near_view : (far : List GateList) (slots : List Slot) (v : ℕ) (s : Slot) → slice_get slots v ≡ Some s → s.count ≤ 4
    → get_or (map (slot_list far) slots) v no_list ≡ near_list s
near_view far slots v s at few =
    get_map (slot_list far) slots v s no_list at ∙ near_slot far s (λ e. (let z : ⊥ = omega arith in z))

pub near_long : (s : Slot) → s.count ≤ 4 → length s.gates ≡ 4 → length (near_list s).items ≡ s.count
near_long s few four = length-take s.count s.gates ∙ omega arith

abbrev pub listed : List ℕ → ℕ → GateList
listed items capacity = record { items = items; capacity = capacity }

-- after a slot was written
module _ (far : List GateList) (slots : List Slot) (v : ℕ) (s t : Slot) (at : slice_get slots v ≡ Some s)
    (are : AreSlots far slots) where
  abbrev now : List Slot
  now = set slots v t

  here : (x : ℕ) (u : Slot) → x ≡ v → slice_get now x ≡ Some u → t ≡ u
  here x u e h =
      same_Some t u
      (sym (slice_get-set_same slots v t (slice_get_within slots v s at)) ∙ ap (slice_get now) (sym e) ∙ h)

  other : (x : ℕ) (u : Slot) → x ≢ v → slice_get now x ≡ Some u → slice_get slots x ≡ Some u
  other x u ne h = sym (slice_get-set_other slots v x t ne) ∙ h

  was : (x : ℕ) (u : Slot) → x ≢ v → IsFar now x u → IsFar slots x u
  was x u ne f = record { at = other x u ne f.at; count = f.count }

  -- whose list is in place
  module _ (few : t.count ≤ 4) where
    is_other : (x : ℕ) (u : Slot) → IsFar now x u → x ≢ v
    is_other x u f e =
        let same : t ≡ u = here x u e f.at in
        let five : t.count ≡ 5 = ap (λ (y : Slot). y.count) same ∙ f.count in
        omega arith

    pub near_kept : AreSlots far now
    near_kept = record {
      counts = λ x u h. elim (cases_eq x v) [
        | inl e ↦ subst (λ (y : Slot). y.count ≤ 5) (here x u e h) (omega arith)
        | inr ne ↦ are.counts x u (other x u ne h)
      ];
      within = λ x u f. are.within x u (was x u (is_other x u f) f);
      apart = λ x y u w ne f g. are.apart x y u w ne (was x u (is_other x u f) f) (was y w (is_other y w g) g);
      roomy = are.roomy;
    }

    pub near_with : s.count ≤ 4 → (f : List ℕ → List ℕ) → (near_list t).items ≡ f (near_list s).items
        → map (slot_list far) now
        ≡ with_items_at (map (slot_list far) slots) v (f (items_at (map (slot_list far) slots) v))
    near_with same f items =
        let before = near_view far slots v s at same in
        let after : slot_list far t ≡ near_list t = near_slot far t (λ e. (let z : ⊥ = omega arith in z)) in
        map-set (slot_list far) slots v t
        ∙ ap (λ l. set (map (slot_list far) slots) v l)
        (after ∙ ap (λ xs. listed xs 4) items
        ∙ ap (λ (l : GateList). listed (f l.items) l.capacity) (sym before))

  -- whose list is one more far one
  module _ (l : GateList) (count : t.count ≡ 5) (last : position t ≡ length far) (room : 4 ≤ l.capacity) where
    abbrev more : List GateList
    more = far ++ l ∷ []

    place_here : (x : ℕ) (u : Slot) → x ≡ v → IsFar now x u → position u ≡ length far
    place_here x u e f = ap position (sym (here x u e f.at)) ∙ last

    place_other : (x : ℕ) (u : Slot) → x ≢ v → IsFar now x u → position u < length far
    place_other x u ne f = are.within x u (was x u ne f)

    pub moved_kept : AreSlots more now
    moved_kept = record {
      counts = λ x u h. elim (cases_eq x v) [
        | inl e ↦ subst (λ (y : Slot). y.count ≤ 5) (here x u e h) (omega arith)
        | inr ne ↦ are.counts x u (other x u ne h)
      ];
      within = λ x u f. elim (cases_eq x v) [
        | inl e ↦ (let p = place_here x u e f in let n = length_push far l in omega arith)
        | inr ne ↦ (let p = place_other x u ne f in let n = length_push far l in omega arith)
      ];
      apart = λ x y u w ne f g. elim (cases_eq x v) [
        | inl e ↦ (let p = place_here x u e f in
            let q = place_other y w (λ d. ne (e ∙ sym d)) g in
            λ d. (let z : ⊥ = omega arith in z))
        | inr nx ↦ elim (cases_eq y v) [
          | inl e ↦ (let p = place_other x u nx f in let q = place_here y w e g in
              λ d. (let z : ⊥ = omega arith in z))
          | inr ny ↦ are.apart x y u w ne (was x u nx f) (was y w ny g)
        ]
      ];
      roomy = λ p m h. elim (slice_get_push far l m p h) [
        | inl old ↦ are.roomy p m old
        | inr new ↦ subst (λ (k : GateList). 4 ≤ k.capacity) new.1 room
      ];
    }

    same_list : (x : ℕ) (u : Slot) → slice_get slots x ≡ Some u → slot_list more u ≡ slot_list far u
    same_list x u h = elim (cases_eq u.count 5) [
      | inl e ↦ far_slot more u e
          ∙ get_or_append_left far (l ∷ []) no_list (position u) (are.within x u (record { at = h; count = e }))
          ∙ sym (far_slot far u e)
      | inr ne ↦ near_slot more u ne ∙ sym (near_slot far u ne)
    ]

    pub moved_lists : map (slot_list more) now ≡ set (map (slot_list far) slots) v l
    moved_lists =
        map-set (slot_list more) slots v t
        ∙ ap (λ ls. set ls v (slot_list more t)) (map_same (slot_list far) (slot_list more) slots same_list)
        ∙ ap (λ k. set (map (slot_list far) slots) v k)
        (far_slot more t count ∙ get_or_push far l no_list (position t) (sym last))

    pub moved_room : s.count ≡ 4 → length s.gates ≡ 4 → l ≡ listed s.gates 8
        → GetsRoom v (map (slot_list far) slots) (map (slot_list more) now)
    moved_room full four is =
        let before = near_view far slots v s at (omega arith) in
        let all : take s.count s.gates ≡ s.gates = take_all s.count s.gates (omega arith) in
        let items : items_at (map (slot_list far) slots) v ≡ s.gates = ap (λ (k : GateList). k.items) before ∙ all in
        let capacity : capacity_at (map (slot_list far) slots) v ≡ 4 = ap (λ (k : GateList). k.capacity) before in
        let long = ap length items in
        record {
          capacity = 8;
          list = moved_lists
              ∙ ap (λ k. set (map (slot_list far) slots) v k) (is ∙ ap (λ xs. listed xs 8) (sym items));
          more = omega arith;
          doubled = omega arith;
        }

-- after a far list was written
module _ (far : List GateList) (slots : List Slot) (v : ℕ) (s : Slot) (l : GateList) (at : slice_get slots v ≡ Some s)
    (count : s.count ≡ 5) (are : AreSlots far slots) where
  abbrev then : List GateList
  then = set far (position s) l

  pub place_within : position s < length far
  place_within = are.within v s (record { at = at; count = count })

  pub list_before : get_or (map (slot_list far) slots) v no_list ≡ get_or far (position s) no_list
  list_before = get_map (slot_list far) slots v s no_list at ∙ far_slot far s count

  pub far_kept : 4 ≤ l.capacity → AreSlots then slots
  far_kept room = record {
    counts = are.counts;
    within = λ x u f. (let p = are.within x u f in let n = length-set far (position s) l in omega arith);
    apart = are.apart;
    roomy = λ p m h. elim (cases_eq p (position s)) [
      | inl e ↦ subst (λ (k : GateList). 4 ≤ k.capacity)
          (same_Some l m (sym (slice_get-set_same far (position s) l place_within) ∙ ap (slice_get then) (sym e) ∙ h)) room
      | inr ne ↦ are.roomy p m (sym (slice_get-set_other far (position s) p l ne) ∙ h)
    ];
  }

  pub far_lists : map (slot_list then) slots ≡ set (map (slot_list far) slots) v l
  far_lists = map_changed (slot_list far) (slot_list then) slots v l
      (λ x u ne h. elim (cases_eq u.count 5) [
        | inl e ↦ far_slot then u e
            ∙ get_or-set_other far (position s) (position u) l no_list
            (are.apart x v u s ne (record { at = h; count = e }) (record { at = at; count = count }))
            ∙ sym (far_slot far u e)
        | inr nu ↦ near_slot then u nu ∙ sym (near_slot far u nu)
      ])
      (λ u h. (let same : s ≡ u = same_Some s u (sym at ∙ h) in
      subst (λ y. slot_list then y ≡ l) same
      (far_slot then s count ∙ get_or-set_same far (position s) l no_list place_within)))

  pub far_room : 4 ≤ (get_or far (position s) no_list).capacity
  far_room = are.roomy (position s) (get_or far (position s) no_list) (slice_get-get_or far (position s) no_list place_within)

-- the same, by the far list that was written
module _ (vecs : List (SmallVec ℕ)) (slots : List Slot) (v p : ℕ) (s : Slot) (d w : SmallVec ℕ) (at : slice_get slots v ≡ Some s)
    (count : s.count ≡ 5) (is : p ≡ position s) (read : d ≡ get_or vecs p d) (are : AreSlots (map far_list vecs) slots)
  where
    abbrev far : List GateList
    far = map far_list vecs

    abbrev view : List GateList
    view = map (slot_list far) slots

    pub written : map far_list (set vecs p w) ≡ set far (position s) (far_list w)
    written = map-set far_list vecs p w ∙ ap (λ q. set far q (far_list w)) is

    pub list_was : get_or view v no_list ≡ far_list d
    list_was =
        let lt = place_within far slots v s (far_list w) at count are in
        list_before far slots v s (far_list w) at count are ∙ ap (λ q. get_or far q no_list) (sym is)
        ∙ get_or-map far_list vecs p d no_list (omega (arith, length-map vecs far_list)) ∙ ap far_list (sym read)

    pub vec_roomy : 4 ≤ d.capacity
    vec_roomy = subst (λ (l : GateList). 4 ≤ l.capacity)
        (sym (list_before far slots v s (far_list w) at count are) ∙ list_was)
        (far_room far slots v s (far_list w) at count are)

    pub written_kept : d.capacity ≤ w.capacity → AreSlots (map far_list (set vecs p w)) slots
    written_kept more = subst (λ ls. AreSlots ls slots) (sym written)
        (far_kept far slots v s (far_list w) at count are (let room = vec_roomy in omega arith))

    pub written_list : map (slot_list (map far_list (set vecs p w))) slots ≡ set view v (far_list w)
    written_list = ap (λ ls. map (slot_list ls) slots) written ∙ far_lists far slots v s (far_list w) at count are

    pub written_with : (f : List ℕ → List ℕ) → w.items ≡ f d.items → w.capacity ≡ d.capacity
        → map (slot_list (map far_list (set vecs p w))) slots ≡ with_items_at view v (f (items_at view v))
    written_with f items capacity =
        written_list
        ∙ ap (λ l. set view v l)
        (ap (λ xs. listed xs w.capacity) items ∙ ap (λ c. listed (f d.items) c) capacity
        ∙ ap (λ (l : GateList). listed (f l.items) l.capacity) (sym list_was))

    pub written_room : w.items ≡ d.items → d.capacity ≤ w.capacity
        → w.capacity ≤ max d.capacity (2 * length d.items)
        → GetsRoom v view (map (slot_list (map far_list (set vecs p w))) slots)
    written_room items more doubled =
        let was_items : items_at view v ≡ d.items = ap (λ (l : GateList). l.items) list_was in
        let was_capacity : capacity_at view v ≡ d.capacity = ap (λ (l : GateList). l.capacity) list_was in
        let long = ap length was_items in
        record {
          capacity = w.capacity;
          list = written_list ∙ ap (λ xs. set view v (listed xs w.capacity)) (items ∙ sym was_items);
          more = omega arith;
          doubled = omega arith;
        }

pub gets_none : (slots : List GateList) (v : ℕ) → GetsRoom v slots slots
gets_none slots v = record {
  capacity = capacity_at slots v;
  list = sym (set-get_or slots v no_list);
  more = omega arith;
  doubled = omega arith;
}

pub removed_default : (xs : List ℕ) (i d e : ℕ) → swap_remove xs i d ≡ swap_remove xs i e
removed_default [] i d e = refl
removed_default (x ∷ xs) i d e =
    ap (λ y. take (length (x ∷ xs) - 1) (set (x ∷ xs) i y))
    (get_or_default (x ∷ xs) (length (x ∷ xs) - 1) d e (omega arith))

pub none_slots : (n : ℕ) (s : Slot) → s.count ≤ 4 → AreSlots [] (replicate n s)
none_slots n s few = record {
  counts = λ x u h. subst (λ (y : Slot). y.count ≤ 5) (get_replicate n x s u h) (omega arith);
  within = λ x u f. absurd (never x u f);
  apart = λ x y u w ne f g. absurd (never x u f);
  roomy = λ p l h. absurd (none-some l h);
}
  where
    never : (x : ℕ) (u : Slot) → IsFar (replicate n s) x u → ⊥
    never x u f =
        let five : s.count ≡ 5 = ap (λ (y : Slot). y.count) (get_replicate n x s u f.at) ∙ f.count in omega arith
