-- The bits of words that are cut, put together and rotated.
use Rattle.std.proofs.Common.{◌≡◌, ◌≢◌, inl, inr, ℕ, zero, suc, ◌+◌, ◌-◌, ◌*◌, ◌/◌, ◌%◌, ◌^◌, ◌<◌, ◌≤◌, min, max, refl}
use Rattle.std.proofs.Common.{bit_or, sym, ap, ap₂, ◌∙◌, arith, add-zero}
use Rattle.std.proofs.lemmas.Bool.{cases_lt, cases_eq}
use Rattle.std.proofs.lemmas.Nat.{or_comm, pow_pos, shr-shr, shr_split, mod_below}
use Rattle.std.proofs.lemmas.Nat.Bits.{bit_at_or, bit_at_cat_low, bit_at_cat_high, bit_at_above}
use Rattle.std.proofs.lemmas.Nat.Bits.{bit_at-zero, bit_at_lowest, same_from_bits}
use Rattle.std.specs.Int.{bit_at, rotate_left, rotate_right, w64}
use Rattle.aig_parts.specs.declared.ternary.Tern.{Tern}
use Rattle.aig_parts.specs.declared.ternary.Tern.TheVariants.{Zero, One, X}
use Rattle.aig_parts.specs.Ternary.{kleene_and, kleene_not}
use Rattle.aig_values.specs.Codes.{bits_of, code_value, IsCode}
use Rattle.aig_values.specs.state.Words.{value_of, value_in, group_value, one_of, zero_of}

-- a shift down, a cut and a shift up
pub bit_div : (n k i : ℕ) → bit_at (n / 2 ^ k) i ≡ bit_at n (k + i)
bit_div n k i = ap (λ (m : ℕ). m % 2) (shr-shr n k i)

pub bit_mod : (n k i : ℕ) → i < k → bit_at (n % 2 ^ k) i ≡ bit_at n i
bit_mod n k i lt =
    sym (bit_at_cat_low (n / 2 ^ k) k (n % 2 ^ k) i lt) ∙ ap (λ (m : ℕ). bit_at m i) (shr_split n k)

bit_mul_low : (n k i : ℕ) → i < k → bit_at (n * 2 ^ k) i ≡ 0
bit_mul_low n k i lt =
    ap (λ (m : ℕ). bit_at m i) (sym (add-zero (n * 2 ^ k))) ∙ bit_at_cat_low n k 0 i lt ∙ bit_at-zero i

bit_mul_high : (n k i : ℕ) → k ≤ i → bit_at (n * 2 ^ k) i ≡ bit_at n (i - k)
bit_mul_high n k i le =
    ap (λ (m : ℕ). bit_at m i) (sym (add-zero (n * 2 ^ k))) ∙ bit_at_cat_high n k 0 i (pow_pos k) le

max_same : (x : ℕ) → max x x ≡ x
max_same x = omega arith

max_left : (x : ℕ) → max x 0 ≡ x
max_left x = omega arith

max_right : (x : ℕ) → max 0 x ≡ x
max_right x = omega arith

-- a word that is rotated
module _ (n by i j : ℕ) (fits : n < 2 ^ 64) (small : i < 64) (is : (by % 64 + i) % 64 ≡ j) where
  pub rotated_bit : bit_at (rotate_right w64 n by) i ≡ bit_at n j
  rotated_bit =
      let k : ℕ = by % 64 in
      let up : ℕ = (64 - k) % 64 in
      let both = bit_at_or (n / 2 ^ k) (n * 2 ^ up % 2 ^ 64) i in
      let cut : bit_at (n * 2 ^ up % 2 ^ 64) i ≡ bit_at (n * 2 ^ up) i = bit_mod (n * 2 ^ up) 64 i small in
      let down : bit_at (n / 2 ^ k) i ≡ bit_at n (k + i) = bit_div n k i in
      elim (cases_eq k 0) [
        | inl e ↦
            let here : k + i ≡ j = omega arith in
            let there : i - up ≡ j = omega arith in
            both ∙ ap₂ max (down ∙ ap (bit_at n) here) (cut ∙ bit_mul_high n up i (omega arith) ∙ ap (bit_at n) there)
            ∙ max_same (bit_at n j)
        | inr ne ↦ elim (cases_lt (k + i) 64) [
          | inl lt ↦
              let here : k + i ≡ j = omega arith in
              both ∙ ap₂ max (down ∙ ap (bit_at n) here) (cut ∙ bit_mul_low n up i (omega arith)) ∙ max_left (bit_at n j)
          | inr le ↦
              let there : i - up ≡ j = omega arith in
              both
              ∙ ap₂ max (down ∙ bit_at_above n 64 (k + i) fits le)
              (cut ∙ bit_mul_high n up i (omega arith) ∙ ap (bit_at n) there) ∙ max_right (bit_at n j)
        ]
      ]

pub rotated_left_bit : (n by i j : ℕ) → n < 2 ^ 64 → i < 64 → i ≡ (by % 64 + j) % 64 → j < 64
    → bit_at (rotate_left w64 n by) i ≡ bit_at n j
rotated_left_bit n by i j fits small is below =
    let k : ℕ = by % 64 in
    let down : (64 - k) % 64 ≡ (64 - k) % 64 % 64 = omega arith in
    let up : k ≡ (64 - (64 - k) % 64) % 64 = omega arith in
    ap (λ (m : ℕ). bit_at m i)
    (or_comm (n * 2 ^ k % 2 ^ 64) (n / 2 ^ ((64 - k) % 64))
    ∙ ap (λ (u : ℕ). bit_or (n / 2 ^ ((64 - k) % 64)) (n * 2 ^ u % 2 ^ 64)) up)
    ∙ rotated_bit n (64 - k) i j fits small (omega arith)

-- cells of a word that is shifted down
pub value_later : (bits at k : ℕ) → value_in (bits / 2 ^ at) k ≡ value_in bits (at + k)
value_later bits at k =
    let i : at + (32 + k) ≡ 32 + (at + k) = omega arith in
    ap₂ value_of (bit_div bits at k) (bit_div bits at (32 + k) ∙ ap (bit_at bits) i)

pub rest_later : (bits at n m rest : ℕ) → rest ≡ bits / 2 ^ at → m ≡ at + n → rest / 2 ^ n ≡ bits / 2 ^ m
rest_later bits at n m rest is sum =
    ap (λ (r : ℕ). r / 2 ^ n) is ∙ shr-shr bits at n ∙ ap (λ (i : ℕ). bits / 2 ^ i) (sym sum)

-- cells of a group of a word that is shifted down
pub group_later : (bits at k i group rest : ℕ) → rest ≡ bits / 2 ^ at → i ≡ at + k → bit_at group k ≡ bit_at rest k
    → bit_at group (4 + k) ≡ bit_at rest (32 + k) → group_value group k ≡ value_in bits i
group_later bits at k i group rest is sum first second =
    ap₂ value_of first second ∙ ap (λ (r : ℕ). value_in r k) is ∙ value_later bits at k ∙ ap (value_in bits) (sym sum)

pub no_value : (k : ℕ) → value_in 0 k ≡ X
no_value k = ap₂ value_of (bit_at-zero k) (bit_at-zero (32 + k))

-- the bits of a value
pub value_back : (x : Tern) → value_of (one_of x) (zero_of x) ≡ x
value_back Zero = refl
value_back One = refl
value_back X = refl

pub one_small : (x : Tern) → one_of x < 2
one_small Zero = omega arith
one_small One = omega arith
one_small X = omega arith

pub zero_small : (x : Tern) → zero_of x < 2
zero_small Zero = omega arith
zero_small One = omega arith
zero_small X = omega arith

pub bits_apart : (x : Tern) → one_of x + zero_of x < 2
bits_apart Zero = omega arith
bits_apart One = omega arith
bits_apart X = omega arith

-- the code of a value
pub is_code_of : (x : Tern) → IsCode (bits_of x)
is_code_of Zero = refl
is_code_of One = refl
is_code_of X = refl

pub code_back : (x : Tern) → code_value (bits_of x) ≡ x
code_back Zero = refl
code_back One = refl
code_back X = refl

-- a negation swaps the bits, an AND has the lesser of ones and the greater of zeros
pub swapped_value : (one nought : ℕ) → one + nought < 2 → value_of nought one ≡ kleene_not (value_of one nought)
swapped_value zero zero lt = refl
swapped_value zero (suc n) lt = refl
swapped_value (suc n) zero lt = refl
swapped_value (suc n) (suc m) lt = absurd (omega arith)

pub and_value : (a b c d : ℕ) → a + b < 2 → c + d < 2
    → value_of (min a c) (max b d) ≡ kleene_and (value_of a b) (value_of c d)
and_value zero zero zero zero lt lt' = refl
and_value zero zero zero (suc zero) lt lt' = refl
and_value zero zero (suc zero) zero lt lt' = refl
and_value zero (suc zero) zero zero lt lt' = refl
and_value zero (suc zero) zero (suc zero) lt lt' = refl
and_value zero (suc zero) (suc zero) zero lt lt' = refl
and_value (suc zero) zero zero zero lt lt' = refl
and_value (suc zero) zero zero (suc zero) lt lt' = refl
and_value (suc zero) zero (suc zero) zero lt lt' = refl
and_value a b c d lt lt' = absurd (omega arith)

-- values that do not differ
pub same_value : (x y : Tern) → (x ≢ y → ⊥) → x ≡ y
same_value Zero Zero same = refl
same_value Zero One same = absurd (same (λ e. omega (arith, ap bits_of e)))
same_value Zero X same = absurd (same (λ e. omega (arith, ap bits_of e)))
same_value One Zero same = absurd (same (λ e. omega (arith, ap bits_of e)))
same_value One One same = refl
same_value One X same = absurd (same (λ e. omega (arith, ap bits_of e)))
same_value X Zero same = absurd (same (λ e. omega (arith, ap bits_of e)))
same_value X One same = absurd (same (λ e. omega (arith, ap bits_of e)))
same_value X X same = refl

-- bits with the same value are the same
pub same_bits : (a b c d : ℕ) → a + b < 2 → c + d < 2 → value_of a b ≡ value_of c d → (a ≡ c) × (b ≡ d)
same_bits zero zero zero zero lt lt' e = (refl, refl)
same_bits zero zero zero (suc n) lt lt' e = absurd (omega (arith, ap bits_of e))
same_bits zero zero (suc n) m lt lt' e = absurd (omega (arith, ap bits_of e))
same_bits zero (suc n) zero zero lt lt' e = absurd (omega (arith, ap bits_of e))
same_bits zero (suc n) zero (suc m) lt lt' e = (refl, omega arith)
same_bits zero (suc n) (suc m) k lt lt' e = absurd (omega (arith, ap bits_of e))
same_bits (suc n) k zero zero lt lt' e = absurd (omega (arith, ap bits_of e))
same_bits (suc n) k zero (suc m) lt lt' e = absurd (omega (arith, ap bits_of e))
same_bits (suc n) k (suc m) j lt lt' e = (omega arith, omega arith)

-- four bits of each plane
module _ (bits k : ℕ) (lt : k < 4) where
  abbrev group : ℕ
  group = bits % 16 + 16 * (bits / 4294967296 % 16)

  group_is : group ≡ bits / 2 ^ 32 % 2 ^ 4 * 2 ^ 4 + bits % 2 ^ 4
  group_is = omega arith

  pub group_one : bit_at group k ≡ bit_at bits k
  group_one =
      ap (λ (n : ℕ). bit_at n k) group_is ∙ bit_at_cat_low (bits / 2 ^ 32 % 2 ^ 4) 4 (bits % 2 ^ 4) k lt
      ∙ bit_mod bits 4 k lt

  pub group_zero : bit_at group (4 + k) ≡ bit_at bits (32 + k)
  group_zero =
      let back : 4 + k - 4 ≡ k = omega arith in
      ap (λ (n : ℕ). bit_at n (4 + k)) group_is
      ∙ bit_at_cat_high (bits / 2 ^ 32 % 2 ^ 4) 4 (bits % 2 ^ 4) (4 + k) (mod_below bits 16 (omega arith)) (omega arith)
      ∙ ap (bit_at (bits / 2 ^ 32 % 2 ^ 4)) back ∙ bit_mod (bits / 2 ^ 32) 4 k lt ∙ bit_div bits 32 k

-- two bits in one word, 32 places apart
module _ (one nought : ℕ) (one_lt : one < 2) (nought_lt : nought < 2) where
  abbrev pair : ℕ
  pair = nought * 2 ^ 32 + one

  bit_of_bit : (n : ℕ) → n < 2 → bit_at n 0 ≡ n
  bit_of_bit n lt = bit_at_lowest n ∙ omega arith

  pub pair_one : bit_at pair 0 ≡ one
  pair_one = bit_at_cat_low nought 32 one 0 (omega arith) ∙ bit_of_bit one one_lt

  pub pair_zero : bit_at pair 32 ≡ nought
  pair_zero = bit_at_cat_high nought 32 one 32 (omega arith) (omega arith) ∙ bit_of_bit nought nought_lt

  pub pair_alone : (i : ℕ) → i ≢ 0 → i ≢ 32 → bit_at pair i ≡ 0
  pair_alone i ne ne' = elim (cases_lt i 32) [
    | inl lt ↦ bit_at_cat_low nought 32 one i lt ∙ bit_at_above one 1 i one_lt (omega arith)
    | inr le ↦
        bit_at_cat_high nought 32 one i (omega arith) le ∙ bit_at_above nought 1 (i - 32) nought_lt (omega arith)
  ]

-- a word with no bits at two places, and none elsewhere
pub none_set : (n : ℕ) → bit_at n 0 ≡ 0 → bit_at n 32 ≡ 0 → ((i : ℕ) → i ≢ 0 → i ≢ 32 → bit_at n i ≡ 0) → n ≡ 0
none_set n first second others =
    same_from_bits n 0 (λ i. elim (cases_eq i 0) [
      | inl e ↦ ap (bit_at n) e ∙ first ∙ sym (bit_at-zero i)
      | inr ne ↦ elim (cases_eq i 32) [
        | inl e ↦ ap (bit_at n) e ∙ second ∙ sym (bit_at-zero i)
        | inr ne' ↦ others i ne ne' ∙ sym (bit_at-zero i)
      ]
    ])

-- bits that changed where two differ
pub flipped_is : (before after change new : ℕ) → before < 2 → after < 2 → change ≡ (after + before) % 2
    → new ≡ (before + change) % 2 → new ≡ after
flipped_is before after change new lt lt' e is = omega arith
