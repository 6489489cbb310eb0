-- Signals one after the other, and what is named of them.
use Rattle.std.proofs.Common.{◌≡◌, ◌≢◌, ℕ, zero, suc, ◌+◌, ◌-◌, ◌<◌, ◌≤◌, Bool, true, false, List, [], ◌∷◌, ◌++◌}
use Rattle.std.proofs.Common.{length, get_or, take, drop, map, replicate, All, Contains, Option, None, Some, inl, inr}
use Rattle.std.proofs.Common.{refl, sym, ap, subst, ◌∙◌, arith, add-one, append_assoc, append-nil}
use Rattle.std.specs.Prelude.{filter, flat_map, is_some, nat_le, set, slice_get}
use Rattle.std.proofs.lemmas.Bool.{cases_Bool, cases_lt, eqb-true, eqb-false, leb-true, leb-false, le-leb}
use Rattle.std.proofs.lemmas.Bool.Decides.{eqb_tells}
use Rattle.std.proofs.lemmas.List.{get_or_append_left, length-append, take_more, take_all, length-replicate, length-set}
use Rattle.std.proofs.lemmas.List.{length-take-le, length-drop, get_or-set_same, get_or-replicate}
use Rattle.std.proofs.lemmas.List.{ext_get_or, get_or-take, get_or-drop}
use Rattle.std.proofs.lemmas.List.Sorted.{Contains-permutation, IsPermutation-sym}
use Rattle.std.specs.List.Sorted.{IsPartitionedBy, IsPartitionPoint, IsPermutation, IsSorted}
use Rattle.std.specs.Ordering.{nat_cmp}
use Rattle.std.proofs.lemmas.Grind.{flat_map-append, get_or_default_zero}
use Rattle.std.proofs.lemmas.Map.Keys.{ge_from_not_lt}
use Rattle.std.proofs.lemmas.List.Folds.{list_any_at, Any-from_list_any}
use Rattle.std.proofs.lemmas.List.Elements.{filter-append, Contains-append_left, Contains-push, Contains-push_cases}
use Rattle.std.proofs.lemmas.List.Elements.{Contains-get_or}
use Rattle.std.proofs.lemmas.Option.{slice_get_cases, slice_get_read, slice_get_within, slice_get-get_or}
use Rattle.std.proofs.lemmas.Option.{get_or_from_slice_get}
use Rattle.aig_parts.specs.declared.raw.Raw.{Raw}
use Rattle.aig_parts.specs.declared.symbols.Kind.{Kind}
use Rattle.aig_parts.specs.declared.ternary.Tern.{Tern}
use Rattle.aig_signals.specs.declared.run.Run.{Run}
use Rattle.aig_signals.specs.declared.signal.Signal.{Signal}
use Rattle.aig_signals.specs.Names.{literals_of}
use Rattle.aig_signals.specs.Naming.{is_named, signal_bits}
use Rattle.aig_signals.specs.Signals.{goes_on, put_entry, runs_from, runs_of, section_signals, signal_of}
use Rattle.aig_signals.specs.state.Naming.{AreNamed, AreNeighbours, IsEntryOf, IsNaming, IsValued, is_repeated}

-- the signals of a section are neighbours
module _ (raw : Raw) (kind : Kind) (all : List Run) where
  put_neighbours : (b : Bool) (p high : ℕ) (runs : List Run) → AreNeighbours (p + 1) (map (signal_of raw kind all) runs) high
      → AreNeighbours p (map (signal_of raw kind all) (put_entry b p runs)) high
  unfolding AreNeighbours
  put_neighbours true p high (run ∷ runs) h = (refl, omega (arith, h.0, h.1), h.2)
  put_neighbours true p high [] h = (refl, omega arith, h)
  put_neighbours false p high [] h = (refl, omega arith, h)
  put_neighbours false p high (run ∷ runs) h = (refl, omega arith, h)

  run_neighbours : (p n : ℕ) → AreNeighbours p (map (signal_of raw kind all) (runs_from raw kind p n)) (p + n)
  unfolding runs_from AreNeighbours
  run_neighbours p zero = omega arith
  run_neighbours p (suc n) =
      let e : p + 1 + n ≡ p + suc n = omega arith in
      put_neighbours (goes_on raw kind p) p (p + suc n) (runs_from raw kind (p + 1) n)
      (subst (AreNeighbours (p + 1) (map (signal_of raw kind all) (runs_from raw kind (p + 1) n))) e (run_neighbours (p + 1) n))

pub section_neighbours : (raw : Raw) (kind : Kind) → AreNeighbours 0 (section_signals raw kind) (length (literals_of raw kind))
unfolding section_signals
section_neighbours raw kind =
    let e : 0 + length (literals_of raw kind) ≡ length (literals_of raw kind) = omega arith in
    subst (AreNeighbours 0 (map (signal_of raw kind (runs_of raw kind)) (runs_of raw kind))) e
    (run_neighbours raw kind (runs_of raw kind) 0 (length (literals_of raw kind)))

-- where a signal is among its neighbours
pub record IsBetween (a b : ℕ) (signal : Signal) : Type 0 where
  pub from : a ≤ signal.first
  pub some : signal.first < signal.end
  pub to : signal.end ≤ b

neighbours_order : (a b : ℕ) (signals : List Signal) → AreNeighbours a signals b → a ≤ b
unfolding AreNeighbours
neighbours_order a b [] h = omega (arith, h)
neighbours_order a b (signal ∷ more) h = omega (arith, h.0, h.1, neighbours_order signal.end b more h.2)

pub signal_between : (a b : ℕ) (signals : List Signal) (k : ℕ) (signal : Signal) → AreNeighbours a signals b → slice_get signals k ≡ Some signal
    → IsBetween a b signal
unfolding AreNeighbours
signal_between a b [] k signal h is = absurd (cc is)
signal_between a b (first ∷ more) zero signal h is =
    let e : first ≡ signal = cc is in
    subst (IsBetween a b) e (record { from = omega (arith, h.0); some = h.1; to = neighbours_order first.end b more h.2 })
signal_between a b (first ∷ more) (suc k) signal h is =
    let rest = signal_between first.end b more k signal h.2 is in
    record { from = omega (arith, h.0, h.1, rest.from); some = rest.some; to = rest.to }

-- of two signals the earlier one ends before the other begins
signals_apart : (a b : ℕ) (signals : List Signal) (j k : ℕ) (s t : Signal) → AreNeighbours a signals b → slice_get signals j ≡ Some s
    → slice_get signals k ≡ Some t → j < k → s.end ≤ t.first
unfolding AreNeighbours
signals_apart a b [] j k s t h here there lt = absurd (cc here)
signals_apart a b (first ∷ more) j zero s t h here there lt = absurd (omega (arith, lt))
signals_apart a b (first ∷ more) zero (suc k) s t h here there lt =
    let e : first ≡ s = cc here in
    let rest = signal_between first.end b more k t h.2 there in
    omega (arith, rest.from, ap (λ (x : Signal). x.end) e)
signals_apart a b (first ∷ more) (suc j) (suc k) s t h here there lt =
    signals_apart first.end b more j k s t h.2 here there (omega (arith, lt))

-- each entry is of one signal
pub entry_there : (a b : ℕ) (signals : List Signal) (p : ℕ) → AreNeighbours a signals b → a ≤ p → p < b → (k : ℕ) × IsEntryOf signals k p
unfolding AreNeighbours
entry_there a b [] p h from to = absurd (omega (arith, h, from, to))
entry_there a b (signal ∷ more) p h from to = elim (cases_lt p signal.end) [
  | inl lt ↦ (0, record { signal = signal; here = refl; from = omega (arith, h.0, from); to = lt })
  | inr le ↦
      let rest = entry_there signal.end b more p h.2 le to in
      (suc rest.0, record { signal = rest.1.signal; here = rest.1.here; from = rest.1.from; to = rest.1.to })
]

pub one_entry : (a b : ℕ) (signals : List Signal) (j k p : ℕ) → AreNeighbours a signals b → IsEntryOf signals j p → IsEntryOf signals k p → j ≡ k
one_entry a b signals j k p h s t = elim (cases_lt j k) [
  | inl lt ↦ absurd (omega (arith, signals_apart a b signals j k s.signal t.signal h s.here t.here lt, s.to, t.from))
  | inr le ↦ elim (cases_lt k j) [
    | inl lt ↦ absurd (omega (arith, signals_apart a b signals k j t.signal s.signal h t.here s.here lt, t.to, s.from))
    | inr le' ↦ omega (arith, le, le')
  ]
]

-- ends ascend
pub ends_ascend : (a b : ℕ) (signals : List Signal) (i j : ℕ) (d : Signal) → AreNeighbours a signals b → i ≤ j → j < length signals
    → (get_or signals i d).end ≤ (get_or signals j d).end
ends_ascend a b signals i j d h le lt = elim (cases_lt i j) [
  | inl less ↦
      let s = slice_get-get_or signals i d (omega (arith, less, lt)) in
      let t = slice_get-get_or signals j d lt in
      let apart = signals_apart a b signals i j (get_or signals i d) (get_or signals j d) h s t less in
      let there = signal_between a b signals j (get_or signals j d) h t in
      omega (arith, apart, there.some)
  | inr more ↦
      let e : i ≡ j = omega (arith, le, more) in
      omega (arith, ap (λ (m : ℕ). (get_or signals m d).end) e)
]

-- the number of an entry's signal, by bisection
pub ends_parted : (a b : ℕ) (signals : List Signal) (p : ℕ) → AreNeighbours a signals b
    → IsPartitionedBy (λ (s : Signal). nat_le s.end p) signals
ends_parted a b signals p near i j d le lt passes =
    le-leb (get_or signals i d).end p
    (omega (arith, ends_ascend a b signals i j d near le lt, leb-true (get_or signals j d).end p passes))

pub number_found : (a b : ℕ) (signals : List Signal) (p r : ℕ) → AreNeighbours a signals b → a ≤ p → p < b
    → IsPartitionPoint (λ (s : Signal). nat_le s.end p ≡ true) (λ (s : Signal). nat_le s.end p ≡ false) signals r → IsEntryOf signals r p
number_found a b signals p r near from to point =
    let found = entry_there a b signals p near from to in
    let k : ℕ = found.0 in
    let entry = found.1 in
    let s = entry.signal in
    let within : k < length signals = slice_get_within signals k s entry.here in
    let at : get_or signals k s ≡ s = get_or_from_slice_get signals k s s entry.here in
    let ends : (get_or signals k s).end ≡ s.end = ap (λ (x : Signal). x.end) at in
    elim (cases_lt k r) [
      | inl lt ↦ absurd (omega (arith, leb-true (get_or signals k s).end p (point.0 k s (omega arith) lt), ends, entry.to))
      | inr le ↦ elim (cases_lt r k) [
        | inl lt ↦
            let t = get_or signals r s in
            let here = slice_get-get_or signals r s (omega (arith, lt, within)) in
            absurd (omega (
              arith,
              leb-false t.end p (point.1 r s (omega arith) (omega (arith, lt, within))),
              signals_apart a b signals r k t s near here entry.here lt,
              entry.from,
            ))
        | inr le' ↦
            let e : k ≡ r = omega (arith, le, le') in
            subst (λ (m : ℕ). IsEntryOf signals m p) e entry
      ]
    ]

-- a signal of which a bit is named has an entry with a value
some_value : (o : Option Tern) → is_some o ≡ true → (w : Tern) × (o ≡ Some w)
some_value None h = absurd (cc h)
some_value (Some w) h = (w, refl)

module _ (values : List (Option Tern)) (signal : Signal) (end : signal.end ≤ length values) where
  bits_size : length (signal_bits values signal) ≡ signal.end - signal.first
  bits_size =
      length-take-le (signal.end - signal.first) (drop signal.first values) (omega (arith, end, length-drop signal.first values))

  bit_is : (i : ℕ) (d : Option Tern) → i < signal.end - signal.first → get_or (signal_bits values signal) i d ≡ get_or values (signal.first + i) d
  bit_is i d lt = get_or-take (signal.end - signal.first) (drop signal.first values) i d lt ∙ get_or-drop signal.first values i d

  pub named_by_value : (w : Tern) (p : ℕ) → signal.first ≤ p → p < signal.end → slice_get values p ≡ Some (Some w)
      → is_named values signal ≡ true
  named_by_value w p from to is =
      let i : ℕ = p - signal.first in
      let less : i < signal.end - signal.first = omega (arith, from, to) in
      let at : signal.first + i ≡ p = omega (arith, from) in
      let value : get_or (signal_bits values signal) i None ≡ Some w =
      bit_is i None less ∙ ap (λ (q : ℕ). get_or values q None) at ∙ get_or_from_slice_get values p (Some w) None is in
      list_any_at is_some (signal_bits values signal) i None (omega (arith, less, bits_size)) (ap is_some value)

  pub value_of_named : is_named values signal ≡ true
      → (p : ℕ) × (w : Tern) × (signal.first ≤ p) × (p < signal.end) × (slice_get values p ≡ Some (Some w))
  value_of_named named =
      let any = Any-from_list_any is_some (signal_bits values signal) named in
      let value = some_value any.1 any.4 in
      let less : any.0 < signal.end - signal.first = omega (arith, any.2, bits_size) in
      let within : signal.first + any.0 < length values = omega (arith, less, end) in (
        signal.first + any.0,
        value.0,
        omega arith,
        omega (arith, less),
        slice_get-get_or values (signal.first + any.0) any.1 within
            ∙ ap (λ (o : Option Tern). Some o) (sym (bit_is any.0 any.1 less) ∙ any.3 ∙ value.1),
      )

-- elements that a test passes over
pub filter_gap : {X : Type 0} (p : X → Bool) (xs : List X) (k j : ℕ) → k ≤ j → j ≤ length xs
    → ((m : ℕ) (x : X) → k ≤ m → m < j → slice_get xs m ≡ Some x → p x ≡ false) → filter p (take j xs) ≡ filter p (take k xs)
filter_gap p xs k zero le within fails =
    let e : 0 ≡ k = omega (arith, le) in
    ap (λ (n : ℕ). filter p (take n xs)) e
filter_gap {X} p xs k (suc j) le within fails = elim (cases_lt j k) [
  | inl lt ↦
      let e : suc j ≡ k = omega (arith, le, lt) in
      ap (λ (n : ℕ). filter p (take n xs)) e
  | inr more ↦ elim (slice_get_cases xs j).1 [
    | inl here ↦
        let (x, lt, is, at) = here in
        let out : p x ≡ false = fails j x more (omega arith) is in
        let next : take (suc j) xs ≡ take j xs ++ x ∷ [] =
        ap (λ (n : ℕ). take n xs) (sym (add-one j)) ∙ take_more xs j x lt ∙ ap (λ (y : X). take j xs ++ y ∷ []) at in
        ap (filter p) next ∙ filter-append p (take j xs) (x ∷ [])
        ∙ ap (λ (ys : List X). filter p (take j xs) ++ ys) (rw out refl) ∙ append-nil (filter p (take j xs))
        ∙ filter_gap p xs k j more (omega (arith, within)) (λ m y from to is. fails m y from (omega (arith, to)) is)
    | inr past ↦ absurd (omega (arith, past.0, within))
  ]
]

pub filter_here : {X : Type 0} (p : X → Bool) (xs : List X) (k : ℕ) (x : X) → slice_get xs k ≡ Some x → p x ≡ true
    → filter p (take (k + 1) xs) ≡ filter p (take k xs) ++ x ∷ []
filter_here {X} p xs k x is holds =
    ap (filter p) (take_more xs k x (slice_get_within xs k x is) ∙ ap (λ (y : X). take k xs ++ y ∷ []) (get_or_from_slice_get xs k x x is))
    ∙ filter-append p (take k xs) (x ∷ []) ∙ ap (λ (ys : List X). filter p (take k xs) ++ ys) (rw holds refl)

slice_get-set_other : {X : Type 0} (xs : List X) (i j : ℕ) (y : X) → j ≢ i → slice_get (set xs i y) j ≡ slice_get xs j
slice_get-set_other [] i j y apart = refl
slice_get-set_other (x ∷ xs) zero zero y apart = absurd (apart refl)
slice_get-set_other (x ∷ xs) zero (suc j) y apart = refl
slice_get-set_other (x ∷ xs) (suc i) zero y apart = refl
slice_get-set_other (x ∷ xs) (suc i) (suc j) y apart = slice_get-set_other xs i j y (λ e. apart (ap suc e))

-- one more entry is named
module _ (signals : List Signal) (values new : List (Option Tern)) (p : ℕ) (v : Tern) (k : ℕ) (near : AreNeighbours 0 signals (length values))
    (entry : IsEntryOf signals k p) (lt : p < length values) (is : new ≡ set values p (Some v)) where
  value_here : slice_get new p ≡ Some (Some v)
  value_here =
      ap (λ (xs : List (Option Tern)). slice_get xs p) is
      ∙ slice_get_read (set values p (Some v)) (length values) p (Some v) (sym (length-set values p (Some v))) lt
      (sym (get_or-set_same values p (Some v) (Some v) lt))

  value_other : (q : ℕ) → q ≢ p → slice_get new q ≡ slice_get values q
  value_other q apart = ap (λ (xs : List (Option Tern)). slice_get xs q) is ∙ slice_get-set_other values p q (Some v) apart

  pub named_more : (named : List ℕ) → AreNamed signals values named → AreNamed signals new (named ++ k ∷ [])
  named_more named h = record {
    each = λ j valued. elim (eqb_tells valued.position p) [
      | inl same ↦
          let here = subst (IsEntryOf signals j) same.1 valued.entry in
          let e : k ≡ j = one_entry 0 (length values) signals k j p near entry here in
          subst (Contains (named ++ k ∷ [])) e (Contains-push named k)
      | inr other ↦
          Contains-append_left named (k ∷ []) j (h.each j (record {
            position = valued.position;
            value = valued.value;
            entry = valued.entry;
            here = sym (value_other valued.position other.1) ∙ valued.here;
          }))
    ];
    only = λ j among. elim (Contains-push_cases named k j among) [
      | inl before ↦
          let valued = h.only j before in
          elim (eqb_tells valued.position p) [
            | inl same ↦ record { position = p; value = v; entry = subst (IsEntryOf signals j) same.1 valued.entry; here = value_here }
            | inr other ↦ record {
              position = valued.position;
              value = valued.value;
              entry = valued.entry;
              here = value_other valued.position other.1 ∙ valued.here;
            }
          ]
      | inr e ↦ record { position = p; value = v; entry = subst (λ (m : ℕ). IsEntryOf signals m p) e entry; here = value_here }
    ];
  }

-- an order of the numbers
pub named_reordered : (signals : List Signal) (values : List (Option Tern)) (old new : List ℕ) → IsPermutation old new
    → AreNamed signals values old → AreNamed signals values new
named_reordered signals values old new same h = record {
  each = λ k valued. Contains-permutation old new k same (h.each k valued);
  only = λ k among. h.only k (Contains-permutation new old k (IsPermutation-sym old new same) among);
}

pub sorted_le : (xs : List ℕ) (i j : ℕ) → IsSorted nat_cmp xs → i ≤ j → j < length xs → get_or xs i 0 ≤ get_or xs j 0
sorted_le xs i zero sorted le lt =
    let e : i ≡ 0 = omega (arith, le) in
    omega (arith, ap (λ (m : ℕ). get_or xs m 0) e)
sorted_le xs i (suc j) sorted le lt = elim (cases_lt j i) [
  | inl more ↦
      let e : i ≡ suc j = omega (arith, le, more) in
      omega (arith, ap (λ (m : ℕ). get_or xs m 0) e)
  | inr less ↦
      let here : get_or xs j 0 ≤ get_or xs (j + 1) 0 =
      ge_from_not_lt (get_or xs (j + 1) 0) (get_or xs j 0) (sorted j 0 (omega arith) (omega (arith, lt))) in
      omega (arith, sorted_le xs i j sorted less (omega (arith, lt)), here, ap (λ (m : ℕ). get_or xs m 0) (add-one j))
]

-- the number after the last one up to an index
unfoldable pub end_of : List ℕ → ℕ → ℕ
end_of named zero = 0
end_of named (suc k) = suc (get_or named k 0)

-- the words that were written when the numbers up to index i were looked at: those of the signals up to the last of
-- them
abbrev pub WordsSoFar : (Signal → List ℕ) → List Signal → List (Option Tern) → List ℕ → List ℕ → ℕ → List ℕ → Type 0
WordsSoFar word signals values named old i text =
    text ≡ old ++ flat_map word (filter (is_named values) (take (end_of named i) signals))

pub words_start : (word : Signal → List ℕ) (signals : List Signal) (values : List (Option Tern)) (named old : List ℕ)
    → WordsSoFar word signals values named old 0 old
unfolding end_of
words_start word signals values named old = sym (append-nil old)

module _ (signals : List Signal) (values : List (Option Tern)) (named : List ℕ) (near : AreNeighbours 0 signals (length values))
    (h : AreNamed signals values named) where
  pub signal_end : (k : ℕ) (s : Signal) → slice_get signals k ≡ Some s → s.end ≤ length values
  signal_end k s is = (signal_between 0 (length values) signals k s near is).to

  pub number_within : (k : ℕ) → Contains named k → k < length signals
  number_within k among =
      let valued = h.only k among in
      slice_get_within signals k valued.entry.signal valued.entry.here

  pub named_here : (k : ℕ) (s : Signal) → Contains named k → slice_get signals k ≡ Some s → is_named values s ≡ true
  named_here k s among is =
      let valued = h.only k among in
      let e : valued.entry.signal ≡ s = cc (sym valued.entry.here ∙ is) in
      named_by_value values s (signal_end k s is) valued.value valued.position
      (omega (arith, valued.entry.from, ap (λ (x : Signal). x.first) e)) (omega (arith, valued.entry.to, ap (λ (x : Signal). x.end) e)) valued.here

  -- a signal that no number names
  not_named : (k : ℕ) (s : Signal) → slice_get signals k ≡ Some s → (Contains named k → ⊥) → is_named values s ≡ false
  not_named k s is none = elim (cases_Bool (is_named values s)) [
    | inl holds ↦
        let value = value_of_named values s (signal_end k s is) holds in
        absurd (none (h.each k (record {
          position = value.0;
          value = value.1;
          entry = record { signal = s; here = is; from = value.2; to = value.3 };
          here = value.4;
        })))
    | inr fails ↦ fails
  ]

  -- no signal from `next` up to `upto` is named, where the numbers up to index i are below the one and the others not
  -- below the other
  words_gap : (i next upto : ℕ) → next ≤ upto → upto ≤ length signals → ((j : ℕ) → j < i → j < length named → get_or named j 0 < next)
      → ((j : ℕ) → i ≤ j → j < length named → upto ≤ get_or named j 0)
      → filter (is_named values) (take upto signals) ≡ filter (is_named values) (take next signals)
  words_gap i next upto le within before after =
      filter_gap (is_named values) signals next upto le within
      (λ m s from to is. not_named m s is (λ among. elim (cases_lt among.0 i) [
        | inl early ↦ absurd (omega (arith, before among.0 early among.1, at m among, from))
        | inr late ↦ absurd (omega (arith, after among.0 late among.1, at m among, to))
      ]))
    where
      at : (m : ℕ) → (among : Contains named m) → get_or named among.0 0 ≡ m
      at m among = sym (get_or_default_zero named among.0 m among.1) ∙ among.2

  -- all numbers up to an index are below the one after the last of them
  before : (sorted : IsSorted nat_cmp named) (i j : ℕ) → i ≤ length named → j < i → get_or named j 0 < end_of named i
  unfolding end_of
  before sorted zero j le lt = absurd (omega (arith, lt))
  before sorted (suc n) j le lt = omega (arith, sorted_le named j n sorted (omega (arith, lt)) (omega (arith, le)))

  repeated_end : (i : ℕ) → is_repeated named i ≡ true → end_of named (suc i) ≡ end_of named i
  unfolding end_of
  repeated_end zero h = absurd (cc h)
  repeated_end (suc n) h = ap suc (sym (eqb-true (get_or named n 0) (get_or named (suc n) 0) h))

  other_end : (sorted : IsSorted nat_cmp named) (i : ℕ) → i < length named → is_repeated named i ≡ false → end_of named i ≤ get_or named i 0
  unfolding end_of
  other_end sorted zero lt h = omega arith
  other_end sorted (suc n) lt h =
      let le = sorted_le named n (suc n) sorted (omega arith) lt in
      let ne : get_or named n 0 ≢ get_or named (suc n) 0 = eqb-false (get_or named n 0) (get_or named (suc n) 0) h in
      elim (cases_lt (get_or named n 0) (get_or named (suc n) 0)) [
        | inl less ↦ less
        | inr more ↦ absurd (ne (omega (arith, le, more)))
      ]

  end_within : (i : ℕ) → i ≤ length named → end_of named i ≤ length signals
  unfolding end_of
  end_within zero le = omega arith
  end_within (suc n) le = number_within (get_or named n 0) (Contains-get_or named n 0 (omega (arith, le)))

  module _ (sorted : IsSorted nat_cmp named) (word : Signal → List ℕ) (old : List ℕ) (i : ℕ) (text : List ℕ)
      (so_far : WordsSoFar word signals values named old i text) where
    pub words_skipped : is_repeated named i ≡ true → WordsSoFar word signals values named old (i + 1) text
    words_skipped same =
        let e : end_of named i ≡ end_of named (i + 1) = sym (repeated_end i same) ∙ ap (end_of named) (sym (add-one i)) in
        so_far ∙ ap (λ (n : ℕ). old ++ flat_map word (filter (is_named values) (take n signals))) e

    pub words_written : (s : Signal) (k : ℕ) (new : List ℕ) → i < length named → k ≡ get_or named i 0 → is_repeated named i ≡ false
        → slice_get signals k ≡ Some s → new ≡ text ++ word s → WordsSoFar word signals values named old (i + 1) new
    unfolding end_of
    words_written s k new lt k_is other here pushed =
        let among : Contains named k = subst (Contains named) (sym k_is) (Contains-get_or named i 0 lt) in
        let within : k < length signals = number_within k among in
        let above : end_of named i ≤ k = omega (arith, k_is, other_end sorted i lt other) in
        let gap = words_gap i (end_of named i) k above (omega (arith, within)) (λ j less is. before sorted i j (omega (arith, lt)) less)
        (λ j late is. omega (arith, k_is, sorted_le named i j sorted late is)) in
        let more = filter_here (is_named values) signals k s here (named_here k s among here) ∙ ap (λ (ss : List Signal). ss ++ s ∷ []) gap in
        let e : k + 1 ≡ end_of named (i + 1) =
        add-one k ∙ ap suc k_is ∙ ap (end_of named) (sym (add-one i)) in
        pushed ∙ ap (λ (xs : List ℕ). xs ++ word s) so_far
        ∙ append_assoc old (flat_map word (filter (is_named values) (take (end_of named i) signals))) (word s)
        ∙ ap (λ (xs : List ℕ). old ++ xs)
        (ap (λ (xs : List ℕ). flat_map word (filter (is_named values) (take (end_of named i) signals)) ++ xs) (sym (append-nil (word s)))
        ∙ sym (flat_map-append word (filter (is_named values) (take (end_of named i) signals)) (s ∷ [])) ∙ ap (flat_map word) (sym more)
        ∙ ap (λ (n : ℕ). flat_map word (filter (is_named values) (take n signals))) e)

    pub words_done : i ≡ length named → text ≡ old ++ flat_map word (filter (is_named values) signals)
    words_done all =
        so_far
        ∙ ap (λ (ss : List Signal). old ++ flat_map word ss)
        (sym (words_gap i (end_of named i) (length signals) (end_within i (omega (arith, all))) (omega arith)
        (λ j less is. before sorted i j (omega (arith, all)) less) (λ j late is. absurd (omega (arith, late, is, all))))
        ∙ ap (filter (is_named values)) (take_all (length signals) signals (omega arith)))

-- values that are taken away, signal by signal
abbrev pub EachIsNamed : List Signal → List (Option Tern) → List ℕ → Type 0
EachIsNamed signals values named = (k : ℕ) → IsValued signals values k → Contains named k

was_some : (o : Option Tern) (w : Tern) (new : Option Tern) → new ≡ Some w → (o ≡ None → new ≡ None) → (v : Tern) × (o ≡ Some v)
was_some None w new is kept = absurd (cc (sym is ∙ kept refl))
was_some (Some v) w new is kept = (v, refl)

module _ (signals : List Signal) (values new : List (Option Tern)) (number : ℕ) (signal : Signal) (here : slice_get signals number ≡ Some signal)
    (size : length new ≡ length values)
    (gone : (p : ℕ) → signal.first ≤ p → p < signal.end → get_or new p None ≡ None)
    (kept : (p : ℕ) → get_or values p None ≡ None → get_or new p None ≡ None) where
  pub each_more : (named rest : List ℕ) → named ≡ rest ++ number ∷ [] → EachIsNamed signals values named → EachIsNamed signals new rest
  each_more named rest is each k valued =
      let p = valued.position in
      let some : get_or new p None ≡ Some valued.value = get_or_from_slice_get new p (Some valued.value) None valued.here in
      let old = was_some (get_or values p None) valued.value (get_or new p None) some (kept p) in
      let within : p < length values = omega (arith, slice_get_within new p (Some valued.value) valued.here, size) in
      let among = each k (record {
        position = p;
        value = old.0;
        entry = valued.entry;
        here = slice_get-get_or values p None within ∙ ap (λ (o : Option Tern). Some o) old.1;
      }) in
      elim (Contains-push_cases rest number k (subst (λ (ns : List ℕ). Contains ns k) is among)) [
        | inl before ↦ before
        | inr e ↦
            let same : valued.entry.signal ≡ signal = cc (sym valued.entry.here ∙ ap (slice_get signals) (sym e) ∙ here) in
            absurd (cc (sym some ∙ gone p (omega (arith, valued.entry.from, ap (λ (x : Signal). x.first) same))
            (omega (arith, valued.entry.to, ap (λ (x : Signal). x.end) same))))
      ]

pub all_cleared : (signals : List Signal) (values : List (Option Tern)) (named : List ℕ) → AreNeighbours 0 signals (length values)
    → named ≡ [] → EachIsNamed signals values named → values ≡ replicate (length values) None
all_cleared signals values named near none each =
    ext_get_or None values (replicate (length values) None) (sym (length-replicate (length values) None))
    (λ p lt. cleared p lt ∙ sym (get_or-replicate (length values) p None None lt))
  where
    value_at : (p : ℕ) → p < length values → (o : Option Tern) → get_or values p None ≡ o → o ≡ None
    value_at p lt None is = refl
    value_at p lt (Some w) is =
        let entry = entry_there 0 (length values) signals p near (omega arith) lt in
        let among = each entry.0 (record {
          position = p;
          value = w;
          entry = entry.1;
          here = slice_get-get_or values p None lt ∙ ap (λ (o : Option Tern). Some o) is;
        }) in
        absurd (omega (arith, among.1, ap length none))

    cleared : (p : ℕ) → p < length values → get_or values p None ≡ None
    cleared p lt = value_at p lt (get_or values p None) refl

-- what is held is kept
pub new_naming : (signals : List Signal) (values : List (Option Tern)) (named : List ℕ) (count : ℕ) → AreNeighbours 0 signals count
    → values ≡ replicate count None → named ≡ [] → IsNaming signals values named
new_naming signals values named count near values_are none = record {
  neighbours = subst (AreNeighbours 0 signals) (sym (ap length values_are ∙ length-replicate count None)) near;
  numbers = record {
    each = λ k valued.
        let p : ℕ = valued.position in
        let some : get_or values p None ≡ Some valued.value = get_or_from_slice_get values p (Some valued.value) None valued.here in
        let within = slice_get_within values p (Some valued.value) valued.here in
        let no : get_or values p None ≡ None =
        ap (λ (xs : List (Option Tern)). get_or xs p None) values_are
        ∙ get_or-replicate count p None None (omega (arith, within, ap length values_are, length-replicate {A = Option Tern} count None)) in
        absurd (cc (sym some ∙ no));
    only = λ k among. absurd (omega (arith, among.1, ap length none));
  };
}

pub named_naming : (signals : List Signal) (values : List (Option Tern)) (named new : List ℕ) (p k : ℕ) (v : Tern) → IsNaming signals values named
    → IsEntryOf signals k p → p < length values → new ≡ named ++ k ∷ [] → IsNaming signals (set values p (Some v)) new
named_naming signals values named new p k v h entry lt is = record {
  neighbours = subst (AreNeighbours 0 signals) (sym (length-set values p (Some v))) h.neighbours;
  numbers =
      subst (AreNamed signals (set values p (Some v))) (sym is)
      (named_more signals values (set values p (Some v)) p v k h.neighbours entry lt refl named h.numbers);
}

pub sorted_naming : (signals : List Signal) (values : List (Option Tern)) (named new : List ℕ) → IsNaming signals values named
    → IsPermutation named new → IsNaming signals values new
sorted_naming signals values named new h same = record {
  neighbours = h.neighbours;
  numbers = named_reordered signals values named new same h.numbers;
}

pub cleared_naming : (signals : List Signal) (values : List (Option Tern)) (named : List ℕ) → AreNeighbours 0 signals (length values)
    → named ≡ [] → EachIsNamed signals values named → IsNaming signals values named
cleared_naming signals values named near none each = record {
  neighbours = near;
  numbers = record { each = each; only = λ k among. absurd (omega (arith, among.1, ap length none)) };
}

pub numbers_within : (signals : List Signal) (values : List (Option Tern)) (named : List ℕ) → AreNeighbours 0 signals (length values)
    → AreNamed signals values named → All (λ (k : ℕ). k < length signals) named
numbers_within signals values named near h = λ i d lt. number_within signals values named near h (get_or named i d) (Contains-get_or named i d lt)

pub signal_within : (signals : List Signal) (values : List (Option Tern)) (k : ℕ) (s : Signal) → AreNeighbours 0 signals (length values)
    → slice_get signals k ≡ Some s → (s.first ≤ s.end) × (s.end ≤ length values)
signal_within signals values k s near here =
    let between = signal_between 0 (length values) signals k s near here in
    (omega (arith, between.some), between.to)

pub all_front : (high : ℕ) (rest : List ℕ) (k : ℕ) (named : List ℕ) → named ≡ rest ++ k ∷ [] → All (λ (n : ℕ). n < high) named
    → All (λ (n : ℕ). n < high) rest
all_front high rest k named is h i d lt =
    let at : get_or named i d ≡ get_or rest i d =
    ap (λ (ns : List ℕ). get_or ns i d) is ∙ get_or_append_left rest (k ∷ []) d i lt in
    subst (λ (n : ℕ). n < high) at (h i d (omega (arith, lt, ap length is, length-append rest (k ∷ []))))

pub each_front : (signals : List Signal) (values : List (Option Tern)) (named rest : List ℕ) → named ≡ rest ++ []
    → EachIsNamed signals values named → EachIsNamed signals values rest
each_front signals values named rest is = subst (EachIsNamed signals values) (is ∙ append-nil rest)
