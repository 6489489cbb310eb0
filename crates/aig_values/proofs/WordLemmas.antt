-- Rows of words in memory and the values that they spell.
use Rattle.std.proofs.Common.{◌≡◌, ◌≢◌, inl, inr, ℕ, zero, suc, ◌+◌, ◌-◌, ◌*◌, ◌/◌, ◌%◌, ◌<◌, ◌≤◌, List, [], ◌∷◌}
use Rattle.std.proofs.Common.{◌++◌, length, replicate, Some, slice_get, get_or, set, refl, sym, ap, ap₂, ◌∙◌, subst}
use Rattle.std.proofs.Common.{arith}
use Rattle.std.proofs.lemmas.Bool.{cases_lt, cases_eq}
use Rattle.std.proofs.lemmas.Nat.Bits.{bit_at-zero, bit_at-pow_other}
use Rattle.std.proofs.lemmas.Option.{slice_get-get_or}
use Rattle.std.proofs.lemmas.List.{length-append, length-set, length-replicate, get_or_append_left, get_or_past}
use Rattle.std.proofs.lemmas.List.{get_or-append_right, get_or-set_same, get_or-set_other, get_or-replicate}
use Rattle.std.proofs.lemmas.List.{ext_get_or}
use Rattle.std.proofs.lemmas.List.FromFn.{length-map-range_with_len, get_or-map-range_with_len}
use Rattle.std.specs.Int.{bit_at}
use Rattle.aig_parts.specs.declared.ternary.Tern.{Tern}
use Rattle.aig_parts.specs.declared.ternary.Tern.TheVariants.{X}
use Rattle.aig_parts.specs.Ternary.{kleene_not}
use Rattle.aig_values.specs.Cells.{fresh_row, literal_value}
use Rattle.aig_values.specs.state.Words.{ones, zeros, bit_in, cell_in, spelled, one_bit, zero_bit, value_of, value_in}
use Rattle.aig_values.specs.state.Words.{AreWhole}
use Rattle.aig_values.proofs.MemoryBits.{bit_of, one_there, zero_there}
use Rattle.aig_values.proofs.WordBits.{swapped_value}

-- the values of the cells
pub length-spelled : (words : List ℕ) → length (spelled words) ≡ 32 * length words
unfolding spelled
length-spelled words = length-map-range_with_len (cell_in (ones words) (zeros words)) 0 (32 * length words)

pub spelled_at : (words : List ℕ) (v : ℕ) → v < 32 * length words
    → get_or (spelled words) v X ≡ cell_in (ones words) (zeros words) v
unfolding spelled
spelled_at words v lt =
    get_or-map-range_with_len (cell_in (ones words) (zeros words)) 0 (32 * length words) v v X lt (omega arith)

pub whole_at : (words : List ℕ) (v : ℕ) → AreWhole words → v < 32 * length words
    → bit_in (ones words) v + bit_in (zeros words) v < 2
unfolding AreWhole
whole_at words v whole lt = whole v lt

pub are_whole : (words : List ℕ) → ((v : ℕ) → v < 32 * length words → bit_in (ones words) v + bit_in (zeros words) v < 2)
    → AreWhole words
unfolding AreWhole
are_whole words each = each

-- words that spell a row
pub spelled_row : (words : List ℕ) (row : List Tern) → length row ≡ 32 * length words
    → ((v : ℕ) → v < 32 * length words → cell_in (ones words) (zeros words) v ≡ get_or row v X) → spelled words ≡ row
spelled_row words row size each =
    ext_get_or X (spelled words) row (length-spelled words ∙ sym size) (λ v lt.
    let within : v < 32 * length words = omega (arith, length-spelled words) in
    spelled_at words v within ∙ each v within)

-- the value of a literal by its bits
pub literal_cell : (words : List ℕ) (l : ℕ) → AreWhole words → l / 2 < 32 * length words
    → value_of (one_bit words l) (zero_bit words l) ≡ literal_value (spelled words) l
literal_cell words l whole lt = elim (cases_eq (l % 2) 0) [
  | inl e ↦ rw e (sym (spelled_at words (l / 2) lt))
  | inr ne ↦
      let one : l % 2 ≡ 1 = omega arith in
      rw one (swapped_value (bit_in (ones words) (l / 2)) (bit_in (zeros words) (l / 2)) (whole_at words (l / 2) whole lt)
      ∙ ap kleene_not (sym (spelled_at words (l / 2) lt)))
]

pub literal_apart : (words : List ℕ) (l : ℕ) → AreWhole words → l / 2 < 32 * length words
    → one_bit words l + zero_bit words l < 2
literal_apart words l whole lt = elim (cases_eq (l % 2) 0) [
  | inl e ↦ rw e (whole_at words (l / 2) whole lt)
  | inr ne ↦
      let one : l % 2 ≡ 1 = omega arith in
      rw one (omega (arith, whole_at words (l / 2) whole lt))
]

-- words in which one cell was written
module _ (words new : List ℕ) (v : ℕ) (size : length new ≡ length words) (lt : v < 32 * length words)
    (same_ones : (u : ℕ) → u < 32 * length words → u ≢ v → bit_in (ones new) u ≡ bit_in (ones words) u)
    (same_zeros : (u : ℕ) → u < 32 * length words → u ≢ v → bit_in (zeros new) u ≡ bit_in (zeros words) u) where
  pub written_row : spelled new ≡ set (spelled words) v (cell_in (ones new) (zeros new) v)
  written_row =
      let x : Tern = cell_in (ones new) (zeros new) v in
      spelled_row new (set (spelled words) v x)
      (length-set (spelled words) v x ∙ length-spelled words ∙ ap (λ (n : ℕ). 32 * n) (sym size)) (λ u below.
      let within : u < 32 * length words = omega arith in
      elim (cases_eq u v) [
        | inl e ↦ ap (cell_in (ones new) (zeros new)) e
            ∙ sym (ap (λ (i : ℕ). get_or (set (spelled words) v x) i X) e
            ∙ get_or-set_same (spelled words) v x X (omega (arith, length-spelled words)))
        | inr ne ↦ ap₂ value_of (same_ones u within ne) (same_zeros u within ne) ∙ sym (spelled_at words u within)
            ∙ sym (get_or-set_other (spelled words) v u x X ne)
      ])

  pub written_whole : AreWhole words → bit_in (ones new) v + bit_in (zeros new) v < 2 → AreWhole new
  written_whole whole here = are_whole new (λ u below.
      let within : u < 32 * length words = omega arith in
      elim (cases_eq u v) [
        | inl e ↦ subst (λ (i : ℕ). bit_in (ones new) i + bit_in (zeros new) i < 2) (sym e) here
        | inr ne ↦ omega (arith, same_ones u within ne, same_zeros u within ne, whole_at words u whole within)
      ])

-- a row of words as the program sees it
module _ (words : List ℕ) (cells : List Tern) (are : spelled words ≡ cells) (v : ℕ) (lt : v < length cells) where
  pub cell_within : v < 32 * length words
  cell_within = omega (arith, length-spelled words, ap length are)

  pub read_cell : get_or cells v X ≡ cell_in (ones words) (zeros words) v
  read_cell = ap (λ (row : List Tern). get_or row v X) (sym are) ∙ spelled_at words v cell_within

  pub get_cell : slice_get cells v ≡ Some (cell_in (ones words) (zeros words) v)
  get_cell = slice_get-get_or cells v X lt ∙ ap Some read_cell

-- one more word of x
zero_after : (words : List ℕ) (i : ℕ) → get_or (words ++ 0 ∷ []) i 0 ≡ get_or words i 0
zero_after [] zero = refl
zero_after [] (suc i) = refl
zero_after (word ∷ words) zero = refl
zero_after (word ∷ words) (suc i) = zero_after words i

module _ (words : List ℕ) where
  longer : length (words ++ 0 ∷ []) ≡ length words + 1
  longer = length-append words (0 ∷ [])

  bit_after : (side v : ℕ) → bit_of side (words ++ 0 ∷ []) v ≡ bit_of side words v
  bit_after side v = ap (λ (n : ℕ). bit_at n ((v + side) % 64)) (zero_after words (v / 32))

  one_after : (v : ℕ) → v < 32 * length words → bit_in (ones (words ++ 0 ∷ [])) v ≡ bit_in (ones words) v
  one_after v lt = one_there (words ++ 0 ∷ []) v (omega (arith, longer)) ∙ bit_after 0 v ∙ sym (one_there words v lt)

  nought_after : (v : ℕ) → v < 32 * length words → bit_in (zeros (words ++ 0 ∷ [])) v ≡ bit_in (zeros words) v
  nought_after v lt = zero_there (words ++ 0 ∷ []) v (omega (arith, longer)) ∙ bit_after 32 v ∙ sym (zero_there words v lt)

  no_bit : (side v : ℕ) → 32 * length words ≤ v → bit_of side (words ++ 0 ∷ []) v ≡ 0
  no_bit side v le =
      bit_after side v ∙ ap (λ (n : ℕ). bit_at n ((v + side) % 64)) (get_or_past words (v / 32) 0 (omega arith))
      ∙ bit_at-zero ((v + side) % 64)

  pub spelled_more : spelled (words ++ 0 ∷ []) ≡ spelled words ++ replicate 32 X
  spelled_more =
      let n = length-spelled words in
      spelled_row (words ++ 0 ∷ []) (spelled words ++ replicate 32 X)
      (length-append (spelled words) (replicate 32 X) ∙ omega (arith, n, longer)) (λ v lt.
      elim (cases_lt v (32 * length words)) [
        | inl below ↦ ap₂ value_of (one_after v below) (nought_after v below) ∙ sym (spelled_at words v below)
            ∙ sym (get_or_append_left (spelled words) (replicate 32 X) X v (omega arith))
        | inr above ↦
            ap₂ value_of (one_there (words ++ 0 ∷ []) v lt ∙ no_bit 0 v above) (zero_there (words ++ 0 ∷ []) v lt ∙ no_bit 32 v above)
            ∙ sym (get_or-append_right (spelled words) (replicate 32 X) (32 * length words) v X n above
            ∙ get_or-replicate 32 (v - 32 * length words) X X (omega (arith, longer)))
      ])

  pub whole_more : AreWhole words → AreWhole (words ++ 0 ∷ [])
  whole_more whole = are_whole (words ++ 0 ∷ []) (λ v lt. elim (cases_lt v (32 * length words)) [
    | inl below ↦ omega (arith, one_after v below, nought_after v below, whole_at words v whole below)
    | inr above ↦
        omega (
          arith,
          one_there (words ++ 0 ∷ []) v lt,
          no_bit 0 v above,
          zero_there (words ++ 0 ∷ []) v lt,
          no_bit 32 v above,
        )
  ])

-- a new row: one word with the bit of zeros of its first cell, and words of x
module _ (k : ℕ) (pos : 0 < k) where
  abbrev fresh : List ℕ
  fresh = set (replicate k 0) 0 4294967296

  length_fresh : length fresh ≡ k
  length_fresh = length-set (replicate k 0) 0 4294967296 ∙ length-replicate k 0

  first_word : (place : ℕ) → place ≢ 32 → bit_at (get_or fresh 0 0) place ≡ 0
  first_word place ne =
      ap (λ (n : ℕ). bit_at n place) (get_or-set_same (replicate k 0) 0 4294967296 0 (omega (arith, length-replicate {A = ℕ} k 0)))
      ∙ bit_at-pow_other 32 place ne

  other_word : (i : ℕ) → i ≢ 0 → get_or fresh i 0 ≡ 0
  other_word i ne =
      get_or-set_other (replicate k 0) 0 i 4294967296 0 ne ∙ elim (cases_lt i k) [
        | inl lt ↦ get_or-replicate k i 0 0 lt
        | inr le ↦ get_or_past (replicate k 0) i 0 (omega (arith, length-replicate {A = ℕ} k 0))
      ]

  fresh_bit : (side v : ℕ) → side % 32 ≡ 0 → (v / 32 ≡ 0 → (v + side) % 64 ≢ 32) → bit_of side fresh v ≡ 0
  fresh_bit side v whole ne = elim (cases_eq (v / 32) 0) [
    | inl e ↦ ap (λ (i : ℕ). bit_at (get_or fresh i 0) ((v + side) % 64)) e ∙ first_word ((v + side) % 64) (ne e)
    | inr other ↦ ap (λ (n : ℕ). bit_at n ((v + side) % 64)) (other_word (v / 32) other) ∙ bit_at-zero ((v + side) % 64)
  ]

  fresh_one : (v : ℕ) → v < 32 * length fresh → bit_in (ones fresh) v ≡ 0
  fresh_one v lt = one_there fresh v lt ∙ fresh_bit 0 v refl (λ low e. omega arith)

  fresh_zero : (v : ℕ) → v < 32 * length fresh → v ≢ 0 → bit_in (zeros fresh) v ≡ 0
  fresh_zero v lt ne = zero_there fresh v lt ∙ fresh_bit 32 v refl (λ low e. ne (omega arith))

  fresh_first : bit_in (zeros fresh) 0 ≡ 1
  fresh_first =
      zero_there fresh 0 (omega (arith, length_fresh))
      ∙ ap (λ (n : ℕ). bit_at n 32) (get_or-set_same (replicate k 0) 0 4294967296 0 (omega (arith, length-replicate {A = ℕ} k 0)))

  cell_fresh : (v : ℕ) → v < 32 * length fresh → cell_in (ones fresh) (zeros fresh) v ≡ get_or (fresh_row (32 * k)) v X
  cell_fresh zero lt = ap₂ value_of (fresh_one 0 lt) fresh_first
  cell_fresh (suc v) lt =
      ap₂ value_of (fresh_one (suc v) lt) (fresh_zero (suc v) lt (λ e. omega arith))
      ∙ sym (get_or-replicate (32 * k - 1) v X X (omega (arith, length_fresh)))

  pub spelled_fresh : spelled fresh ≡ fresh_row (32 * k)
  spelled_fresh =
      spelled_row fresh (fresh_row (32 * k)) (omega (arith, length_fresh, length-replicate {A = Tern} (32 * k - 1) X))
      cell_fresh

  pub whole_fresh : AreWhole fresh
  whole_fresh = are_whole fresh (λ v lt. elim (cases_eq v 0) [
    | inl e ↦ subst (λ (i : ℕ). bit_in (ones fresh) i + bit_in (zeros fresh) i < 2) (sym e)
        (omega (arith, fresh_first, fresh_one 0 (omega (arith, length_fresh))))
    | inr ne ↦ omega (arith, fresh_one v lt, fresh_zero v lt ne)
  ])

-- bits of the cells from a variable on
module _ (words : List ℕ) (v bits : ℕ)
    (one : (k : ℕ) → v % 32 + k < 32 → bit_at bits k ≡ bit_in (ones words) (v + k))
    (nought : (k : ℕ) → v % 32 + k < 32 → bit_at bits (32 + k) ≡ bit_in (zeros words) (v + k)) where
  pub first_one : bit_at bits 0 ≡ bit_in (ones words) v
  first_one =
      let same : v + 0 ≡ v = omega arith in
      subst (λ (i : ℕ). bit_at bits 0 ≡ bit_in (ones words) i) same (one 0 (omega arith))

  pub first_zero : bit_at bits 32 ≡ bit_in (zeros words) v
  first_zero =
      let same : v + 0 ≡ v = omega arith in
      subst (λ (i : ℕ). bit_at bits 32 ≡ bit_in (zeros words) i) same (nought 0 (omega arith))

pub cell_from : (words : List ℕ) (v bits k : ℕ) → v + k < 32 * length words → bit_at bits k ≡ bit_in (ones words) (v + k)
    → bit_at bits (32 + k) ≡ bit_in (zeros words) (v + k) → value_in bits k ≡ get_or (spelled words) (v + k) X
cell_from words v bits k lt one nought = ap₂ value_of one nought ∙ sym (spelled_at words (v + k) lt)
