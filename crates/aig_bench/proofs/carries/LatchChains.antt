-- The chains of latches that read a variable: how they are made, and how they are gone through.
use Rattle.std.proofs.Common.{◌≡◌, ◌≢◌, ◌⊎◌, ◌↔◌, inl, inr, ℕ, zero, suc, ◌+◌, ◌<◌, ◌≤◌, List, [], ◌∷◌, ◌++◌, length}
use Rattle.std.proofs.Common.{replicate, set, get_or, map, option_map, Some, slice_get, refl, sym, ap, ◌∙◌, subst}
use Rattle.std.proofs.Common.{arith, length-append}
use Rattle.std.proofs.lemmas.Bool.{cases_eq}
use Rattle.std.proofs.lemmas.List.{length-map, length-set, length-replicate}
use Rattle.std.proofs.lemmas.Option.{same_Some, slice_get-get_or, slice_get-map, slice_get_within}
use Rattle.aig_parts.specs.declared.latch.Latch.{Latch}
use Rattle.aig_parts.specs.declared.raw.Raw.{Raw}
use Rattle.aig_base.specs.Changes.{restarted, with_gate, with_reset}
use Rattle.aig_parts.specs.declared.ternary.Tern.{Tern}
use Rattle.aig_parts.specs.Literal.{variable}
use Rattle.aig_bench.specs.declared.propagate.latch_list.LatchList.{LatchList}
use Rattle.aig_bench.specs.declared.propagate.latch_readers.LatchReaders.{LatchReaders}
use Rattle.aig_parts.specs.state.Bits.{HasBit}
use Rattle.aig_bench.specs.state.Latches.{TakesNextFrom, HaveBits, IsLast, AreLatchReaders, Lists}
use Rattle.aig_bench.proofs.cells.CellLemmas.{get_set_same, get_set_other}

-- the chains of the first n latches
pub record AreChainsSoFar (raw : Raw) (n : ℕ) (last before : List ℕ) : Type 0 where
  pub variables : length last ≡ raw.max_var + 1
  pub latches : length before ≡ n + 1
  pub ends : (v i : ℕ) → slice_get last v ≡ Some i → IsLast raw v n i
  pub steps : (p i : ℕ) (x : Latch) → slice_get raw.latches p ≡ Some x → slice_get before (suc p) ≡ Some i
      → IsLast raw (variable x.next) p i

zero_only : (n v i : ℕ) → slice_get (replicate n 0) v ≡ Some i → i ≡ 0
zero_only zero v i at = absurd (cc)
zero_only (suc n) zero i at = sym (same_Some 0 i at)
zero_only (suc n) (suc v) i at = zero_only n v i at

-- at first there is no last latch
pub bits_none : (n : ℕ) (last words : List ℕ) → last ≡ replicate n 0 → HaveBits last words
bits_none n last words e v i at some = absurd (some (zero_only n v i (ap (λ (xs : List ℕ). slice_get xs v) (sym e) ∙ at)))

-- one more variable has a last latch, and its bit
pub bits_more : (last words words' : List ℕ) (v k : ℕ) → HaveBits last words
    → ((n : ℕ) → HasBit words' n ↔ (HasBit words n ⊎ (n ≡ v))) → HaveBits (set last v k) words'
bits_more last words words' v k h bits u i at some = elim (cases_eq u v) [
  | inl e ↦ (bits u).1 (inr e)
  | inr ne ↦ (bits u).1 (inl (h u i (sym (get_set_other last v u k ne) ∙ at) some))
]

at_end : (xs : List ℕ) (b k i : ℕ) → slice_get (xs ++ b ∷ []) k ≡ Some i → (slice_get xs k ≡ Some i) ⊎ ((k ≡ length xs) × (i ≡ b))
at_end [] b zero i at = inr (refl, sym (same_Some b i at))
at_end [] b (suc k) i at = absurd (cc)
at_end (x ∷ xs) b zero i at = inl at
at_end (x ∷ xs) b (suc k) i at = elim (at_end xs b k i at) [ inl e ↦ inl e | inr e ↦ inr (ap suc e.0, e.1) ]

module _ (raw : Raw) where
  pub chains_none : (last before : List ℕ) → last ≡ replicate (raw.max_var + 1) 0 → before ≡ 0 ∷ []
      → AreChainsSoFar raw 0 last before
  chains_none last before e f = record {
    variables = ap length e ∙ length-replicate (raw.max_var + 1) 0;
    latches = ap length f;
    ends = λ v i at.
        let z : i ≡ 0 = zero_only (raw.max_var + 1) v i (ap (λ (xs : List ℕ). slice_get xs v) (sym e) ∙ at) in record {
          inside = omega arith;
          follows = λ ne. absurd (ne z);
          none_over = λ j lt le k. omega arith;
        };
    steps = λ p i x at is.
        let lt : suc p < length before = slice_get_within before (suc p) i is in
        absurd (omega (arith, ap length f));
  }

  module _ (n : ℕ) (x : Latch) (at : slice_get raw.latches n ≡ Some x) (last before : List ℕ)
      (h : AreChainsSoFar raw n last before) (inside : variable x.next < length last) where
    last_more : (b u i : ℕ) → slice_get last (variable x.next) ≡ Some b
        → slice_get (set last (variable x.next) (n + 1)) u ≡ Some i → IsLast raw u (n + 1) i
    last_more b u i was is = elim (cases_eq u (variable x.next)) [
      | inl e ↦
          let here : slice_get (set last (variable x.next) (n + 1)) u ≡ Some (n + 1) =
          ap (slice_get (set last (variable x.next) (n + 1))) e ∙ get_set_same last (variable x.next) (n + 1) inside in
          let same : i ≡ n + 1 = same_Some i (n + 1) (sym is ∙ here) in
          record {
            inside = omega arith;
            follows = λ ne. (n, x, omega arith, at, sym e);
            none_over = λ j lt le k. omega arith;
          }
      | inr ne ↦
          let k = h.ends u i (sym (get_set_other last (variable x.next) u (n + 1) ne) ∙ is) in
          let le = k.inside in
          record {
            inside = omega arith;
            follows = k.follows;
            none_over = λ j lt le f. elim (cases_eq j (n + 1)) [
              | inl e ↦
                  let (p, y, is, there, reads) = f in
                  let q : p ≡ n = omega arith in
                  let same : y ≡ x = same_Some y x (sym there ∙ ap (slice_get raw.latches) q ∙ at) in
                  ne (sym reads ∙ ap (λ (z : Latch). variable z.next) same)
              | inr o ↦ k.none_over j lt (omega arith) f
            ];
          }
    ]

    pub chains_more : (b : ℕ) → slice_get last (variable x.next) ≡ Some b
        → AreChainsSoFar raw (n + 1) (set last (variable x.next) (n + 1)) (before ++ b ∷ [])
    chains_more b was = record {
      variables = length-set last (variable x.next) (n + 1) ∙ h.variables;
      latches = length-append before (b ∷ []) ∙ ap (λ k. k + 1) h.latches;
      ends = λ u i is. last_more b u i was is;
      steps = λ p i y there is. elim (at_end before b (suc p) i is) [
        | inl k ↦ h.steps p i y there k
        | inr e ↦
            let q : p ≡ n = (let l = h.latches in let f = e.0 in omega arith) in
            let same : y ≡ x = same_Some y x (sym there ∙ ap (slice_get raw.latches) q ∙ at) in
            rw (q, e.1, same) (h.ends (variable x.next) b was)
      ];
    }

  pub chains_all : (n : ℕ) (readers : LatchReaders) → length raw.latches ≡ n
      → AreChainsSoFar raw n readers.last.items readers.before.items
      → HaveBits readers.last.items readers.read.words.items → AreLatchReaders raw readers
  chains_all n readers e h bits = record {
    variables = h.variables;
    latches = h.latches ∙ ap (λ k. k + 1) (sym e);
    last = λ v i at. rw e (h.ends v i at);
    before = h.steps;
    read = bits;
  }

-- the latches over this one that follow the variable were added
pub record AreListedOver (raw : Raw) (v i : ℕ) (old new : LatchList) : Type 0 where
  pub inside : i ≤ length raw.latches
  pub follows : i ≢ 0 → TakesNextFrom raw i v
  pub lists : Lists (λ j. TakesNextFrom raw j v × (i < j)) old new

module _ (raw : Raw) (readers : LatchReaders) (are : AreLatchReaders raw readers) (v : ℕ) where
  pub listing_none : (i : ℕ) (list : LatchList) → slice_get readers.last.items v ≡ Some i → AreListedOver raw v i list list
  listing_none i list at =
      let k = are.last v i at in record {
        inside = k.inside;
        follows = k.follows;
        lists = λ j. (
          λ m. inl m,
          λ m. elim m [
            | inl o ↦ o
            | inr f ↦
                let (p, x, is, there, reads) = f.0 in
                let lt : p < length raw.latches = slice_get_within raw.latches p x there in
                absurd (k.none_over j f.1 (omega arith) f.0)
          ],
        );
      }

  -- a variable without a bit has no latch
  pub listing_unread : (i : ℕ) (list : LatchList) → slice_get readers.last.items v ≡ Some i
      → (HasBit readers.read.words.items v → ⊥) → Lists (λ j. TakesNextFrom raw j v) list list
  listing_unread i list at unread = λ j. (
    λ m. inl m,
    λ m. elim m [
      | inl o ↦ o
      | inr f ↦
          let (p, x, is, there, reads) = f in
          let lt : p < length raw.latches = slice_get_within raw.latches p x there in
          elim (cases_eq i 0) [
            | inl z ↦ absurd ((are.last v i at).none_over j (omega arith) (omega arith) f)
            | inr some ↦ absurd (unread (are.read v i at some))
          ]
    ],
  )

  module _ (i k : ℕ) (start old : LatchList) (h : AreListedOver raw v i start old) (some : i ≢ 0)
      (at : slice_get readers.before.items i ≡ Some k) where
    before_last : (p : ℕ) × (i ≡ suc p) × IsLast raw v p k
    before_last =
        let (p, x, is, there, reads) = h.follows some in
        (p, is, rw (← reads) (are.before p k x there (ap (slice_get readers.before.items) (sym is) ∙ at)))

    pub before_less : k < i
    before_less = let (p, is, l) = before_last in let le = l.inside in omega arith

    pub listing_more : (new : LatchList) → Lists (λ j. j ≡ i) old new → AreListedOver raw v k start new
    listing_more new adds =
        let (p, is, l) = before_last in
        let le = l.inside in
        let inside = h.inside in
        record {
          inside = omega arith;
          follows = l.follows;
          lists = λ j. (
            λ m. elim ((adds j).0 m) [
              | inl o ↦ elim ((h.lists j).0 o) [
                | inl s ↦ inl s
                | inr f ↦ inr (f.0, omega (arith, f.1))
              ]
              | inr e ↦ inr (subst (λ (n : ℕ). TakesNextFrom raw n v) (sym e) (h.follows some), omega arith)
            ],
            λ m. elim m [
              | inl s ↦ (adds j).1 (inl ((h.lists j).1 (inl s)))
              | inr f ↦ elim (over j i) [
                | inl o ↦ (adds j).1 (inl ((h.lists j).1 (inr (f.0, o))))
                | inr u ↦ elim (cases_eq j i) [
                  | inl e ↦ (adds j).1 (inr e)
                  | inr ne ↦ absurd (l.none_over j f.1 (omega arith) f.0)
                ]
              ]
            ],
          );
        }
      where
        over : (j i : ℕ) → (i < j) ⊎ (j ≤ i)
        over j i = grind arith

-- what was read at a position
pub read_at : (xs : List ℕ) (i x : ℕ) → i < length xs → x ≡ get_or xs i x → slice_get xs i ≡ Some x
read_at xs i x lt is = slice_get-get_or xs i x lt ∙ ap Some (sym is)

pub latch_unmapped : (f : Latch → Latch) (xs : List Latch) (k : ℕ) (x : Latch) → slice_get (map f xs) k ≡ Some x
    → (y : Latch) × (slice_get xs k ≡ Some y) × (f y ≡ x)
latch_unmapped f [] k x at = absurd (cc)
latch_unmapped f (y ∷ ys) zero x at = (y, refl, same_Some (f y) x at)
latch_unmapped f (y ∷ ys) (suc k) x at = latch_unmapped f ys k x at

-- the readers of a circuit are those of one whose latches read the same
pub readers_same : (raw new : Raw) (readers : LatchReaders) → AreLatchReaders raw readers → new.max_var ≡ raw.max_var
    → length new.latches ≡ length raw.latches
    → ((p : ℕ) (x : Latch) → slice_get new.latches p ≡ Some x → (y : Latch) × (slice_get raw.latches p ≡ Some y) × (y.next ≡ x.next))
    → ((p : ℕ) (y : Latch) → slice_get raw.latches p ≡ Some y → (x : Latch) × (slice_get new.latches p ≡ Some x) × (y.next ≡ x.next))
    → AreLatchReaders new readers
readers_same raw new readers h variables size was now = record {
  variables = h.variables ∙ ap (λ n. n + 1) (sym variables);
  latches = h.latches ∙ ap (λ n. n + 1) (sym size);
  last = λ v i at. rw size (last_same v (length raw.latches) i (h.last v i at));
  before = λ p i x at is.
      let (y, there, next) = was p x at in
      subst (λ (n : ℕ). IsLast new (variable n) p i) next (last_same (variable y.next) p i (h.before p i y there is));
  read = h.read;
}
  where
    follows_now : (i v : ℕ) → TakesNextFrom raw i v → TakesNextFrom new i v
    follows_now i v (p, y, is, at, reads) = let (x, there, next) = now p y at in (p, x, is, there, ap variable (sym next) ∙ reads)

    follows_was : (i v : ℕ) → TakesNextFrom new i v → TakesNextFrom raw i v
    follows_was i v (p, x, is, at, reads) = let (y, there, next) = was p x at in (p, y, is, there, ap variable next ∙ reads)

    last_same : (v n i : ℕ) → IsLast raw v n i → IsLast new v n i
    last_same v n i k = record {
      inside = k.inside;
      follows = λ ne. follows_now i v (k.follows ne);
      none_over = λ j lt le f. k.none_over j lt le (follows_was j v f);
    }

pub readers_rewired : (raw new : Raw) (lhs r0 r1 : ℕ) (readers : LatchReaders) → AreLatchReaders raw readers
    → new ≡ with_gate raw lhs r0 r1 → AreLatchReaders new readers
readers_rewired raw new lhs r0 r1 readers h e =
    subst (λ (c : Raw). AreLatchReaders c readers) (sym e)
    (readers_same raw (with_gate raw lhs r0 r1) readers h refl refl (λ p x at. (x, at, refl)) (λ p y at. (y, at, refl)))

pub readers_reset : (raw new : Raw) (lit : ℕ) (w : Tern) (readers : LatchReaders) → AreLatchReaders raw readers
    → new ≡ with_reset raw lit w → AreLatchReaders new readers
readers_reset raw new lit w readers h e =
    subst (λ (c : Raw). AreLatchReaders c readers) (sym e)
    (readers_same raw (with_reset raw lit w) readers h refl (length-map raw.latches (restarted lit w)) (λ p x at.
    let (y, there, is) = latch_unmapped (restarted lit w) raw.latches p x at in
    (y, there, ap (λ (z : Latch). z.next) is)) (λ p y at. (
      restarted lit w y,
      slice_get-map (restarted lit w) raw.latches p ∙ ap (option_map (restarted lit w)) at,
      refl,
    )))

pub latches_reset : (raw new : Raw) (lit : ℕ) (w : Tern) → new ≡ with_reset raw lit w
    → length new.latches ≡ length raw.latches
latches_reset raw new lit w e =
    ap (λ (c : Raw). length c.latches) e ∙ length-map raw.latches (restarted lit w)
