-- Where the bits of both planes lie in memory.
use Rattle.std.proofs.Common.{◌≡◌, ◌≢◌, inl, inr, ℕ, suc, ◌+◌, ◌-◌, ◌*◌, ◌/◌, ◌%◌, ◌^◌, ◌<◌, List, [], ◌∷◌, length}
use Rattle.std.proofs.Common.{get_or, set, bit_xor, refl, sym, ap, ap₂, ◌∙◌, arith}
use Rattle.std.proofs.lemmas.Bool.{cases_lt, cases_eq}
use Rattle.std.proofs.lemmas.Nat.{mod_below}
use Rattle.std.proofs.lemmas.Nat.Bits.{bit_at_xor, bit_at_cat_low, bit_at_cat_high, bit_at-lt}
use Rattle.std.proofs.lemmas.List.{length-set, get_or-set_same, get_or-set_other}
use Rattle.std.specs.Int.{bit_at, rotate_left, rotate_right, w64}
use Rattle.aig_values.specs.state.Words.{lower, upper, ones, zeros, bit_in, one_bit, zero_bit}
use Rattle.aig_values.proofs.WordBits.{bit_div, bit_mod, rotated_bit, rotated_left_bit}

-- the bit of a cell in the word that has it: that of ones at side 0, that of zeros at side 32
abbrev pub bit_of : ℕ → List ℕ → ℕ → ℕ
bit_of side words v = bit_at (get_or words (v / 32) 0) ((v + side) % 64)

plain : (b : ℕ) → b < 2 → (b + 0) % 2 ≡ b
plain b lt = omega arith

pub one_there : (words : List ℕ) (v : ℕ) → v < 32 * length words → bit_in (ones words) v ≡ bit_of 0 words v
unfolding ones
one_there [] v lt = absurd (omega arith)
one_there (even ∷ []) v lt =
    let q : v / 64 ≡ 0 = omega arith in
    let r : v / 32 ≡ 0 = omega arith in
    let place : v % 64 ≡ (v + 0) % 64 = omega arith in
    ap (λ (i : ℕ). bit_at (get_or (lower even ∷ []) i 0) (v % 64)) q ∙ bit_mod even 32 (v % 64) (omega arith)
    ∙ ap (bit_at even) place ∙ ap (λ (i : ℕ). bit_at (get_or (even ∷ []) i 0) ((v + 0) % 64)) (sym r)
one_there (even ∷ odd ∷ words) v lt = elim (cases_lt v 64) [
  | inl small ↦
      let q : v / 64 ≡ 0 = omega arith in
      let place : v % 64 ≡ (v + 0) % 64 = omega arith in
      let word : ℕ = upper odd * 2 ^ 32 + lower even in
      let first : bit_in (ones (even ∷ odd ∷ words)) v ≡ bit_at word (v % 64) =
      ap (λ (i : ℕ). bit_at (get_or (word ∷ ones words) i 0) (v % 64)) q in
      elim (cases_lt v 32) [
        | inl low ↦
            let r : v / 32 ≡ 0 = omega arith in
            first ∙ bit_at_cat_low (upper odd) 32 (lower even) (v % 64) (omega arith)
            ∙ bit_mod even 32 (v % 64) (omega arith) ∙ ap (bit_at even) place
            ∙ ap (λ (i : ℕ). bit_at (get_or (even ∷ odd ∷ words) i 0) ((v + 0) % 64)) (sym r)
        | inr high ↦
            let r : v / 32 ≡ 1 = omega arith in
            let back : 32 + (v % 64 - 32) ≡ (v + 0) % 64 = omega arith in
            first
            ∙ bit_at_cat_high (upper odd) 32 (lower even) (v % 64) (mod_below even 4294967296 (omega arith)) (omega arith)
            ∙ bit_mod (odd / 2 ^ 32) 32 (v % 64 - 32) (omega arith) ∙ bit_div odd 32 (v % 64 - 32) ∙ ap (bit_at odd) back
            ∙ ap (λ (i : ℕ). bit_at (get_or (even ∷ odd ∷ words) i 0) ((v + 0) % 64)) (sym r)
      ]
  | inr big ↦
      let q : v / 64 ≡ suc ((v - 64) / 64) = omega arith in
      let r : v / 32 ≡ suc (suc ((v - 64) / 32)) = omega arith in
      let m : v % 64 ≡ (v - 64) % 64 = omega arith in
      let n : (v - 64 + 0) % 64 ≡ (v + 0) % 64 = omega arith in
      let word : ℕ = upper odd * 2 ^ 32 + lower even in
      ap₂ (λ (i p : ℕ). bit_at (get_or (word ∷ ones words) i 0) p) q m ∙ one_there words (v - 64) (omega arith)
      ∙ ap (bit_at (get_or words ((v - 64) / 32) 0)) n
      ∙ ap (λ (i : ℕ). bit_at (get_or (even ∷ odd ∷ words) i 0) ((v + 0) % 64)) (sym r)
]

pub zero_there : (words : List ℕ) (v : ℕ) → v < 32 * length words → bit_in (zeros words) v ≡ bit_of 32 words v
unfolding zeros
zero_there [] v lt = absurd (omega arith)
zero_there (even ∷ []) v lt =
    let q : v / 64 ≡ 0 = omega arith in
    let r : v / 32 ≡ 0 = omega arith in
    let place : 32 + v % 64 ≡ (v + 32) % 64 = omega arith in
    ap (λ (i : ℕ). bit_at (get_or (upper even ∷ []) i 0) (v % 64)) q
    ∙ bit_mod (even / 2 ^ 32) 32 (v % 64) (omega arith) ∙ bit_div even 32 (v % 64)
    ∙ ap (bit_at even) place ∙ ap (λ (i : ℕ). bit_at (get_or (even ∷ []) i 0) ((v + 32) % 64)) (sym r)
zero_there (even ∷ odd ∷ words) v lt = elim (cases_lt v 64) [
  | inl small ↦
      let q : v / 64 ≡ 0 = omega arith in
      let word : ℕ = lower odd * 2 ^ 32 + upper even in
      let first : bit_in (zeros (even ∷ odd ∷ words)) v ≡ bit_at word (v % 64) =
      ap (λ (i : ℕ). bit_at (get_or (word ∷ zeros words) i 0) (v % 64)) q in
      elim (cases_lt v 32) [
        | inl low ↦
            let r : v / 32 ≡ 0 = omega arith in
            let place : 32 + v % 64 ≡ (v + 32) % 64 = omega arith in
            first ∙ bit_at_cat_low (lower odd) 32 (upper even) (v % 64) (omega arith)
            ∙ bit_mod (even / 2 ^ 32) 32 (v % 64) (omega arith) ∙ bit_div even 32 (v % 64) ∙ ap (bit_at even) place
            ∙ ap (λ (i : ℕ). bit_at (get_or (even ∷ odd ∷ words) i 0) ((v + 32) % 64)) (sym r)
        | inr high ↦
            let r : v / 32 ≡ 1 = omega arith in
            let back : v % 64 - 32 ≡ (v + 32) % 64 = omega arith in
            first
            ∙ bit_at_cat_high (lower odd) 32 (upper even) (v % 64) (mod_below (even / 2 ^ 32) 4294967296 (omega arith))
            (omega arith)
            ∙ bit_mod odd 32 (v % 64 - 32) (omega arith) ∙ ap (bit_at odd) back
            ∙ ap (λ (i : ℕ). bit_at (get_or (even ∷ odd ∷ words) i 0) ((v + 32) % 64)) (sym r)
      ]
  | inr big ↦
      let q : v / 64 ≡ suc ((v - 64) / 64) = omega arith in
      let r : v / 32 ≡ suc (suc ((v - 64) / 32)) = omega arith in
      let m : v % 64 ≡ (v - 64) % 64 = omega arith in
      let n : (v - 64 + 32) % 64 ≡ (v + 32) % 64 = omega arith in
      let word : ℕ = lower odd * 2 ^ 32 + upper even in
      ap₂ (λ (i p : ℕ). bit_at (get_or (word ∷ zeros words) i 0) p) q m ∙ zero_there words (v - 64) (omega arith)
      ∙ ap (bit_at (get_or words ((v - 64) / 32) 0)) n
      ∙ ap (λ (i : ℕ). bit_at (get_or (even ∷ odd ∷ words) i 0) ((v + 32) % 64)) (sym r)
]

-- words whose bits are known in memory
module _ (words : List ℕ) (v : ℕ) (lt : v < 32 * length words) where
  -- a rotated word has the bits of the cells from a variable on
  pub bits_there : (side k : ℕ) → side + k < 64 → v % 32 + k < 32 → get_or words (v / 32) 0 < 2 ^ 64
      → bit_at (rotate_right w64 (get_or words (v / 32) 0) (v % 64)) (side + k) ≡ bit_of side words (v + k)
  bits_there side k small near fits =
      let word : (v + k) / 32 ≡ v / 32 = omega arith in
      rotated_bit (get_or words (v / 32) 0) (v % 64) (side + k) ((v + k + side) % 64) fits small (omega arith)
      ∙ ap (λ (i : ℕ). bit_at (get_or words i 0) ((v + k + side) % 64)) (sym word)

  module _ (change turned : ℕ) (fits : change < 2 ^ 64) (is : turned ≡ rotate_left w64 change (v % 64)) where
    abbrev pub flipped : List ℕ
    flipped = set words (v / 32) (bit_xor (get_or words (v / 32) 0) turned)

    length_flipped : length flipped ≡ length words
    length_flipped = length-set words (v / 32) (bit_xor (get_or words (v / 32) 0) turned)

    turned_bit : (i j : ℕ) → i < 64 → i ≡ (v % 64 % 64 + j) % 64 → j < 64 → bit_at turned i ≡ bit_at change j
    turned_bit i j small place below =
        ap (λ (n : ℕ). bit_at n i) is ∙ rotated_left_bit change (v % 64) i j fits small place below

    flipped_here : (side : ℕ) → side < 64 → bit_of side flipped v ≡ (bit_of side words v + bit_at change side) % 2
    flipped_here side small =
        let word : ℕ = get_or words (v / 32) 0 in
        ap (λ (n : ℕ). bit_at n ((v + side) % 64)) (get_or-set_same words (v / 32) (bit_xor word turned) 0 (omega arith))
        ∙ bit_at_xor word turned ((v + side) % 64)
        ∙ ap (λ (b : ℕ). (bit_of side words v + b) % 2)
        (turned_bit ((v + side) % 64) side (omega arith) (omega arith) small)

    flipped_other : ((i : ℕ) → i ≢ 0 → i ≢ 32 → bit_at change i ≡ 0) → (side u : ℕ) → side % 32 ≡ 0 → u ≢ v
        → bit_of side flipped u ≡ bit_of side words u
    flipped_other alone side u whole ne =
        let word : ℕ = get_or words (v / 32) 0 in
        elim (cases_eq (u / 32) (v / 32)) [
          | inl e ↦
              let place : ℕ = (u + side) % 64 in
              let j : ℕ = (place + 64 - v % 64) % 64 in
              let same : get_or flipped (u / 32) 0 ≡ bit_xor word turned =
              ap (λ (i : ℕ). get_or flipped i 0) e ∙ get_or-set_same words (v / 32) (bit_xor word turned) 0 (omega arith) in
              let none : bit_at turned place ≡ 0 =
              turned_bit place j (omega arith) (omega arith) (omega arith)
              ∙ alone j (λ z. ne (omega arith)) (λ z. ne (omega arith)) in
              ap (λ (n : ℕ). bit_at n place) same ∙ bit_at_xor word turned place
              ∙ ap (λ (b : ℕ). (bit_at word place + b) % 2) none
              ∙ plain (bit_at word place) (bit_at-lt word place)
              ∙ ap (λ (i : ℕ). bit_at (get_or words i 0) place) (sym e)
          | inr ne_word ↦
              ap (λ (n : ℕ). bit_at n ((u + side) % 64)) (get_or-set_other words (v / 32) (u / 32) (bit_xor word turned) 0 ne_word)
        ]

    pub flipped_one : bit_in (ones flipped) v ≡ (bit_in (ones words) v + bit_at change 0) % 2
    flipped_one =
        one_there flipped v (omega (arith, length_flipped)) ∙ flipped_here 0 (omega arith)
        ∙ ap (λ (b : ℕ). (b + bit_at change 0) % 2) (sym (one_there words v lt))

    pub flipped_zero : bit_in (zeros flipped) v ≡ (bit_in (zeros words) v + bit_at change 32) % 2
    flipped_zero =
        zero_there flipped v (omega (arith, length_flipped)) ∙ flipped_here 32 (omega arith)
        ∙ ap (λ (b : ℕ). (b + bit_at change 32) % 2) (sym (zero_there words v lt))

    module _ (alone : (i : ℕ) → i ≢ 0 → i ≢ 32 → bit_at change i ≡ 0) (u : ℕ) (below : u < 32 * length words) (ne : u ≢ v) where
      pub other_ones : bit_in (ones flipped) u ≡ bit_in (ones words) u
      other_ones =
          one_there flipped u (omega (arith, length_flipped)) ∙ flipped_other alone 0 u refl ne ∙ sym (one_there words u below)

      pub other_zeros : bit_in (zeros flipped) u ≡ bit_in (zeros words) u
      other_zeros =
          zero_there flipped u (omega (arith, length_flipped)) ∙ flipped_other alone 32 u refl ne
          ∙ sym (zero_there words u below)

-- the bits of a literal's value
module _ (words : List ℕ) (l : ℕ) (lt : l / 2 < 32 * length words) (fits : get_or words (l / 64) 0 < 2 ^ 64) (by : ℕ)
    (is : by % 64 ≡ (l / 2 + 32 * (l % 2)) % 64) where
  side_there : (side : ℕ) → side < 64 → bit_at (rotate_right w64 (get_or words (l / 64) 0) by) side
      ≡ bit_at (get_or words (l / 2 / 32) 0) ((l / 2 + (32 * (l % 2) + side)) % 64)
  side_there side small =
      let word : l / 64 ≡ l / 2 / 32 = omega arith in
      rotated_bit (get_or words (l / 64) 0) by side ((l / 2 + (32 * (l % 2) + side)) % 64) fits small (omega arith)
      ∙ ap (λ (i : ℕ). bit_at (get_or words i 0) ((l / 2 + (32 * (l % 2) + side)) % 64)) word

  pub literal_one : bit_at (rotate_right w64 (get_or words (l / 64) 0) by) 0 ≡ one_bit words l
  literal_one = elim (cases_eq (l % 2) 0) [
    | inl e ↦
        let place : (l / 2 + (32 * (l % 2) + 0)) % 64 ≡ (l / 2 + 0) % 64 = omega arith in
        rw e (side_there 0 (omega arith) ∙ ap (bit_at (get_or words (l / 2 / 32) 0)) place ∙ sym (one_there words (l / 2) lt))
    | inr ne ↦
        let one : l % 2 ≡ 1 = omega arith in
        let place : (l / 2 + (32 * (l % 2) + 0)) % 64 ≡ (l / 2 + 32) % 64 = omega arith in
        rw one (side_there 0 (omega arith) ∙ ap (bit_at (get_or words (l / 2 / 32) 0)) place ∙ sym (zero_there words (l / 2) lt))
  ]

  pub literal_zero : bit_at (rotate_right w64 (get_or words (l / 64) 0) by) 32 ≡ zero_bit words l
  literal_zero = elim (cases_eq (l % 2) 0) [
    | inl e ↦
        let place : (l / 2 + (32 * (l % 2) + 32)) % 64 ≡ (l / 2 + 32) % 64 = omega arith in
        rw e (side_there 32 (omega arith) ∙ ap (bit_at (get_or words (l / 2 / 32) 0)) place ∙ sym (zero_there words (l / 2) lt))
    | inr ne ↦
        let one : l % 2 ≡ 1 = omega arith in
        let place : (l / 2 + (32 * (l % 2) + 32)) % 64 ≡ (l / 2 + 0) % 64 = omega arith in
        rw one (side_there 32 (omega arith) ∙ ap (bit_at (get_or words (l / 2 / 32) 0)) place ∙ sym (one_there words (l / 2) lt))
  ]
