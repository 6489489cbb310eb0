-- Places of words, and the numbers that they stand for.
use Rattle.std.proofs.Common.{◌≡◌, ◌≢◌, ◌↔◌, inl, inr, ℕ, ◌+◌, ◌-◌, ◌*◌, ◌/◌, ◌%◌, ◌^◌, ◌<◌, ◌≤◌, List, length}
use Rattle.std.proofs.Common.{get_or, set, bit_and, bit_or, w64, Option, Some, None, IfNone, refl, sym, ap, ◌∙◌, subst, arith}
use Rattle.std.specs.Int.{bit_at, trailing_zeros}
use Rattle.std.proofs.lemmas.Bool.{cases_eq, cases_lt}
use Rattle.std.proofs.lemmas.List.{get_or_read}
use Rattle.std.proofs.lemmas.Nat.{div-add-mod', pow_pos}
use Rattle.std.proofs.lemmas.Nat.Bits.{bit_at_cat_high, bit_at-trailing_zeros, bit_at-zero, bit_at_above}
use Rattle.std.proofs.lemmas.Nat.Bits.{bit_at_clear_same, bit_at_clear_other}
use Rattle.std.proofs.Math.Nat.{mod-lt, div-le_self}
use Rattle.aig_parts.specs.state.Bits.{HasBit}
use Rattle.aig_parts.proofs.BitLemmas.{differ, elsewhere, inserted, past, there}
use Rattle.aig_bench.specs.state.LevelSet.{AreFilled, HasNone, IsFirstPlace, IsFirstFrom, IsFirstInWord, word_limit}

nothing_set : (word place : ℕ) → word ≡ 0 → bit_at word place ≡ 1 → ⊥
nothing_set word place e is =
    differ (bit_at word place) (ap (λ (n : ℕ). bit_at n place) e ∙ bit_at-zero place) is

bit_above : (word from i : ℕ) → from ≤ i → bit_at word i ≡ bit_at (word / 2 ^ from) (i - from)
bit_above word from i le =
    ap (λ (n : ℕ). bit_at n i) (sym (div-add-mod' word (2 ^ from)))
    ∙ bit_at_cat_high (word / 2 ^ from) from (word % 2 ^ from) i (mod-lt word (pow_pos from)) le

pub no_place : (word from : ℕ) → word / 2 ^ from ≡ 0 → (q : ℕ) → from ≤ q → bit_at word q ≡ 1 → ⊥
no_place word from e q le is =
    nothing_set (word / 2 ^ from) (q - from) e (sym (bit_above word from q le) ∙ is)

lower : (n a b : ℕ) → n ≤ a → a < b → n < b
lower n a b le lt = omega arith

back : (from i : ℕ) → from + i - from ≡ i
back from i = omega arith

under : (from q t : ℕ) → from ≤ q → q < from + t → q - from < t
under from q t le lt = omega arith

at_least : (from t : ℕ) → from ≤ from + t
at_least from t = omega arith

positive : (n : ℕ) → n ≢ 0 → 0 < n
positive n ne = omega arith

pub first_set : (word from : ℕ) → word < 2 ^ 64 → word / 2 ^ from ≢ 0
    → IsFirstPlace word from (Some (from + trailing_zeros w64 (word / 2 ^ from)))
first_set word from fits some =
    let rest = word / 2 ^ from in
    let t = trailing_zeros w64 rest in
    let h = bit_at-trailing_zeros w64 rest (positive rest some) (lower rest word (2 ^ 64) (div-le_self word (2 ^ from)) fits) in
    let here : bit_at word (from + t) ≡ 1 =
    bit_above word from (from + t) (at_least from t) ∙ ap (λ (i : ℕ). bit_at rest i) (back from t) ∙ h.1 in (
      at_least from t,
      elim (cases_lt (from + t) 64) [
        | inl lt ↦ lt
        | inr le ↦ absurd (differ (bit_at word (from + t)) (bit_at_above word 64 (from + t) fits le) here)
      ],
      here,
      λ q le lt is.
          differ (bit_at word q) (bit_above word from q le ∙ h.2 (q - from) (under from q t le lt)) is,
    )

-- a word without a bit from its first place on is 0
pub whole_word : (word from : ℕ) → word / 2 ^ from ≡ 0 → from ≡ 0 → word ≡ 0
whole_word word from none e =
    let one : word / 2 ^ 0 ≡ word = omega arith in
    sym one ∙ ap (λ (k : ℕ). word / 2 ^ k) (sym e) ∙ none

-- a word that is 0 has no number
pub none_of_zero : (words : List ℕ) (n : ℕ) → get_or words (n / 64) 0 ≡ 0 → HasBit words n → ⊥
unfolding HasBit
none_of_zero words n e is = nothing_set (get_or words (n / 64) 0) (n % 64) e is

pub none_of_zeros : (words : List ℕ) → ((w : ℕ) → get_or words w 0 ≡ 0) → (n : ℕ) → HasBit words n → ⊥
none_of_zeros words none n = none_of_zero words n (none (n / 64))

-- nothing is there, and no word has anything
pub no_words_filled : (words filled : List ℕ) → ((w : ℕ) → get_or words w 0 ≡ 0) → ((w : ℕ) → get_or filled w 0 ≡ 0)
    → length words ≤ word_limit → length words ≤ 64 * length filled → length filled ≤ word_limit
    → AreFilled words filled
no_words_filled words filled empty none limit room few = record {
  limit = limit;
  room = room;
  few = few;
  each = λ w. (λ h. absurd (none_of_zeros filled none w h), λ ne. absurd (ne (empty w)));
}

-- a word that gets another value at the place of a number
module _ (words : List ℕ) (number old : ℕ) (inside : number / 64 < length words)
    (is : old ≡ get_or words (number / 64) old) where
  pub removed : (n : ℕ) → HasBit (set words (number / 64) (bit_and old (18446744073709551615 - 1 * 2 ^ (number % 64) % 18446744073709551616))) n
      ↔ (HasBit words n × (n ≢ number))
  unfolding HasBit
  removed n =
      let place = number % 64 in
      let low : place < 64 = omega arith in
      let word = bit_and old (18446744073709551615 - 1 * 2 ^ place % 18446744073709551616) in
      let same = elsewhere words number old inside is word (λ p lt ne. bit_at_clear_other w64 old place low p lt ne) n in
      let gone = λ (e : n ≡ number). there words number old inside is word n e ∙ bit_at_clear_same w64 old place low in (
        λ h. elim (cases_eq n number) [
          | inl e ↦ absurd (differ _ (gone e) h)
          | inr ne ↦ (sym (same ne) ∙ h, ne)
        ],
        λ h. same h.1 ∙ h.0,
      )

  pub filled_now : get_or (set words (number / 64) (bit_or old (1 * 2 ^ (number % 64) % 18446744073709551616))) (number / 64) 0 ≢ 0
  filled_now e =
      none_of_zero (set words (number / 64) (bit_or old (1 * 2 ^ (number % 64) % 18446744073709551616))) number e
      ((inserted words number old inside is number).1 (inr refl))

-- the first place of a word, as a number
module _ (words : List ℕ) (from word : ℕ) (inside : from / 64 < length words) (is : word ≡ get_or words (from / 64) word) where
  word_is : get_or words (from / 64) 0 ≡ word
  word_is = sym (get_or_read words (from / 64) word inside is 0)

  place_of : (n : ℕ) → n / 64 ≡ from / 64 → HasBit words n → bit_at word (n % 64) ≡ 1
  unfolding HasBit
  place_of n e h =
      let now : get_or words (n / 64) 0 ≡ word = rw e word_is in
      ap (λ (x : ℕ). bit_at x (n % 64)) (sym now) ∙ h

  number_of : (n p : ℕ) → n / 64 ≡ from / 64 → n % 64 ≡ p → bit_at word p ≡ 1 → HasBit words n
  unfolding HasBit
  number_of n p e k h =
      let now : get_or words (n / 64) 0 ≡ word = rw e word_is in
      ap (λ (x : ℕ). bit_at x (n % 64)) now ∙ ap (λ (q : ℕ). bit_at word q) k ∙ h

  pub none_in_word : IsFirstPlace word (from % 64) None → IsFirstInWord words from None
  none_in_word h n le lt has =
      let e : n / 64 ≡ from / 64 = omega arith in
      h (n % 64) (omega arith) (place_of n e has)

  pub some_in_word : (p : ℕ) → IsFirstPlace word (from % 64) (Some p)
      → IsFirstInWord words from (Some (from / 64 * 64 + p))
  some_in_word p (le, low, set, least) = (
    omega arith,
    omega arith,
    number_of (from / 64 * 64 + p) p (omega arith) (omega arith) set,
    λ n above lt has.
        let e : n / 64 ≡ from / 64 = omega arith in
        least (n % 64) (omega arith) (omega arith) (place_of n e has),
  )

-- two stretches without a number
pub none_then : (words : List ℕ) (from mid end : ℕ) → HasNone words from mid → HasNone words mid end → HasNone words from end
none_then words from mid end h k n le lt has = elim (cases_lt n mid) [
  | inl below ↦ h n le below has
  | inr above ↦ k n above lt has
]

-- none in the words before, and the first one of a word
pub first_then : (words : List ℕ) (from word n : ℕ) → from ≤ word * 64 → HasNone words from (word * 64)
    → IsFirstInWord words (word * 64) (Some n) → IsFirstFrom words from (Some n)
first_then words from word n le h (above, lt, has, none) =
    (omega arith, has, none_then words from (word * 64) n h none)

pub none_at_all : (words : List ℕ) (from word : ℕ) → HasNone words from (word * 64) → length words ≤ word
    → IsFirstFrom words from None
none_at_all words from word h over n le has = elim (cases_lt n (word * 64)) [
  | inl below ↦ h n le below has
  | inr above ↦ past words n (omega arith) has
]

module _ (words filled : List ℕ) (set : AreFilled words filled) where
  filled_of : (n : ℕ) → HasBit words n → HasBit filled (n / 64)
  filled_of n has = (set.each (n / 64)).1 (λ z. none_of_zero words n z has)

  -- no word after this one has a number
  pub none_filled : (from : ℕ) → HasNone words from ((from / 64 + 1) * 64) → IsFirstFrom filled (from / 64 + 1) None
      → IsFirstFrom words from None
  none_filled from h k n le has = elim (cases_lt n ((from / 64 + 1) * 64)) [
    | inl below ↦ h n le below has
    | inr above ↦ k (n / 64) (omega arith) (filled_of n has)
  ]

  -- the first word after this one that has a number
  pub next_filled : (from w n : ℕ) → HasNone words from ((from / 64 + 1) * 64)
      → IsFirstFrom filled (from / 64 + 1) (Some w) → IsFirstInWord words (w * 64) (Some n) → IsFirstFrom words from (Some n)
  next_filled from w n h (above, has, least) k = first_then words from w n (omega arith) before k
    where
      before : HasNone words from (w * 64)
      before m le lt is = elim (cases_lt m ((from / 64 + 1) * 64)) [
        | inl below ↦ h m le below is
        | inr over ↦ least (m / 64) (omega arith) (omega arith) (filled_of m is)
      ]

  pub word_filled : (w : ℕ) → HasBit filled w → (w * 64 % 64 ≡ 0 → get_or words (w * 64 / 64) 0 ≡ 0) → ⊥
  word_filled w has empty =
      let e : w * 64 / 64 ≡ w = omega arith in
      (set.each w).0 has (ap (λ (k : ℕ). get_or words k 0) (sym e) ∙ empty (omega arith))

  pub found_in_word : (from w : ℕ) (o : Option ℕ) → HasNone words from ((from / 64 + 1) * 64)
      → IsFirstFrom filled (from / 64 + 1) (Some w) → IsFirstInWord words (w * 64) o
      → IfNone o (w * 64 % 64 ≡ 0 → get_or words (w * 64 / 64) 0 ≡ 0) → IsFirstFrom words from o
  found_in_word from w (Some n) h k found empty = next_filled from w n h k found
  found_in_word from w None h k found empty = absurd (word_filled w k.1 empty)
