-- A number's bit: read, set.
use Rattle.std.proofs.Common.{◌≡◌, ◌≢◌, ◌⊎◌, ◌↔◌, inl, inr, ℕ, ◌*◌, ◌/◌, ◌%◌, ◌^◌, ◌<◌, ◌≤◌, List, length, get_or, set}
use Rattle.std.proofs.Common.{bit_and, bit_or, w64, eqb, IsTrue, sym, ap, ◌∙◌, arith, get_or-set_other, get_or-set_same}
use Rattle.std.specs.Int.{bit_at}
use Rattle.std.proofs.lemmas.Bool.{cases_eq}
use Rattle.std.proofs.lemmas.Bool.Decides.{Decides-eqb}
use Rattle.std.proofs.lemmas.List.{get_or_read, get_or_past}
use Rattle.std.proofs.lemmas.Nat.Bits.{shr_and_one, bit_at-zero, bit_at_set_same, bit_at_set_other}
use Rattle.aig_parts.specs.state.Bits.{HasBit}

pub differ : (n : ℕ) → n ≡ 0 → n ≡ 1 → ⊥
differ n a b = omega arith

-- a number after all words
pub past : (words : List ℕ) (n : ℕ) → length words ≤ n / 64 → HasBit words n → ⊥
unfolding HasBit
past words n le is =
    differ (bit_at (get_or words (n / 64) 0) (n % 64))
    (ap (λ (k : ℕ). bit_at k (n % 64)) (get_or_past words (n / 64) 0 le) ∙ bit_at-zero (n % 64)) is

-- the words are the same at each place
pub same_bits : (words others : List ℕ) → ((w : ℕ) → get_or words w 0 ≡ get_or others w 0) → (n : ℕ) → HasBit words n
    ↔ HasBit others n
unfolding HasBit
same_bits words others same n =
    let e = ap (λ (k : ℕ). bit_at k (n % 64)) (same (n / 64)) in
    (λ h. sym e ∙ h, λ h. e ∙ h)

-- what a word's bit says, read by a shift
pub has_read : (words : List ℕ) (n word : ℕ) → n / 64 < length words → word ≡ get_or words (n / 64) word
    → IsTrue (eqb (bit_and (word / 2 ^ (n % 64)) 1) 1) ↔ HasBit words n
unfolding HasBit
has_read words n word inside is =
    let e : get_or words (n / 64) 0 ≡ word = sym (get_or_read words (n / 64) word inside is 0) in
    let b : bit_at (get_or words (n / 64) 0) (n % 64) ≡ bit_at word (n % 64) = ap (λ (k : ℕ). bit_at k (n % 64)) e in
    let s = shr_and_one word (n % 64) in
    let test = Decides-eqb (bit_and (word / 2 ^ (n % 64)) 1) 1 in
    (λ h. b ∙ sym s ∙ test.0 h, λ h. test.1 (s ∙ sym b ∙ h))

-- a word that gets the bit of a number
module _ (words : List ℕ) (number old : ℕ) (inside : number / 64 < length words)
    (is : old ≡ get_or words (number / 64) old) where
  was : old ≡ get_or words (number / 64) 0
  was = get_or_read words (number / 64) old inside is 0

  module _ (word : ℕ) where
    pub there : (n : ℕ) → n ≡ number
        → bit_at (get_or (set words (number / 64) word) (n / 64) 0) (n % 64) ≡ bit_at word (number % 64)
    there n e =
        rw e (ap (λ (x : ℕ). bit_at x (number % 64)) (get_or-set_same words (number / 64) word 0 inside))

    pub elsewhere : ((p : ℕ) → p < 64 → p ≢ number % 64 → bit_at word p ≡ bit_at old p) → (n : ℕ) → n ≢ number
        → bit_at (get_or (set words (number / 64) word) (n / 64) 0) (n % 64) ≡ bit_at (get_or words (n / 64) 0) (n % 64)
    elsewhere same n ne = elim (cases_eq (n / 64) (number / 64)) [
      | inl e ↦
          let now : get_or (set words (number / 64) word) (n / 64) 0 ≡ word =
          rw e (get_or-set_same words (number / 64) word 0 inside) in
          let before : old ≡ get_or words (n / 64) 0 = rw e was in
          ap (λ (x : ℕ). bit_at x (n % 64)) now
          ∙ same (n % 64) (omega arith) (λ k. ne (omega arith))
          ∙ ap (λ (x : ℕ). bit_at x (n % 64)) before
      | inr k ↦ ap (λ (x : ℕ). bit_at x (n % 64)) (get_or-set_other words (number / 64) (n / 64) word 0 k)
    ]

  pub inserted : (n : ℕ) → HasBit (set words (number / 64) (bit_or old (1 * 2 ^ (number % 64) % 18446744073709551616))) n
      ↔ (HasBit words n ⊎ (n ≡ number))
  unfolding HasBit
  inserted n =
      let place = number % 64 in
      let low : place < 64 = omega arith in
      let word = bit_or old (1 * 2 ^ place % 18446744073709551616) in
      let same = elsewhere word (λ p lt ne. bit_at_set_other w64 old place low p ne) n in (
        λ h. elim (cases_eq n number) [ inl e ↦ inr e | inr ne ↦ inl (sym (same ne) ∙ h) ],
        λ h. elim (cases_eq n number) [
          | inl e ↦ there word n e ∙ bit_at_set_same w64 old place low
          | inr ne ↦ elim h [ inl k ↦ same ne ∙ k | inr e ↦ absurd (ne e) ]
        ],
      )

-- the same, with words that were made before
pub inserted_after : (before words : List ℕ) (number old : ℕ) → ((w : ℕ) → get_or words w 0 ≡ get_or before w 0)
    → number / 64 < length words → old ≡ get_or words (number / 64) old → (n : ℕ)
    → HasBit (set words (number / 64) (bit_or old (1 * 2 ^ (number % 64) % 18446744073709551616))) n
    ↔ (HasBit before n ⊎ (n ≡ number))
inserted_after before words number old same inside is n =
    let one = inserted words number old inside is n in
    let two = same_bits words before same n in (
      λ h. elim (one.0 h) [ inl k ↦ inl (two.0 k) | inr e ↦ inr e ],
      λ h. one.1 (elim h [ inl k ↦ inl (two.1 k) | inr e ↦ inr e ]),
    )
