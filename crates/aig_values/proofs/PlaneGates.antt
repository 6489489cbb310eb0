-- Gates that are evaluated in the planes of a row.
use Rattle.std.proofs.Common.{◌≡◌, ◌≢◌, ℕ, ◌+◌, ◌*◌, ◌/◌, ◌%◌, ◌<◌, min, max, List, length, get_or, set, bit_and, bit_or}
use Rattle.std.proofs.Common.{sym, ap, ap₂, ◌∙◌, arith}
use Rattle.std.proofs.lemmas.List.{set-get_or}
use Rattle.std.proofs.lemmas.Nat.Bits.{bit_at_and, bit_at_or, bit_at-lt, bit_at-zero}
use Rattle.std.specs.Int.{bit_at}
use Rattle.aig_parts.specs.declared.gate.Gate.{Gate}
use Rattle.aig_parts.specs.declared.ternary.Tern.{Tern}
use Rattle.aig_parts.specs.declared.ternary.Tern.TheVariants.{X}
use Rattle.aig_parts.specs.Literal.{variable}
use Rattle.aig_parts.specs.Ternary.{kleene_and}
use Rattle.aig_values.specs.Cells.{gate_value, HasVariablesBelow}
use Rattle.aig_values.specs.state.Words.{ones, zeros, bit_in, spelled, one_bit, zero_bit, value_of, AreWhole}
use Rattle.aig_values.proofs.WordBits.{and_value, flipped_is, none_set, same_bits}
use Rattle.aig_values.proofs.WordLemmas.{cell_within, literal_apart, literal_cell, read_cell, whole_at}
use Rattle.aig_values.proofs.WordLemmas.{written_row, written_whole}

-- both bits of an AND
and_apart : (a b c d : ℕ) → a + b < 2 → c + d < 2 → min a c + max b d < 2
and_apart a b c d lt lt' = omega arith

same_bit : (after before change : ℕ) → after < 2 → before < 2 → change ≡ (after + before) % 2 → change ≡ 0 → after ≡ before
same_bit after before change lt lt' is none = omega arith

no_change : (after before change : ℕ) → after < 2 → before < 2 → change ≡ (after + before) % 2 → after ≡ before → change ≡ 0
no_change after before change lt lt' is same = omega arith

module _ (words : List ℕ) (cells : List Tern) (are : spelled words ≡ cells) (whole : AreWhole words) (g : Gate)
    (places : HasVariablesBelow (length cells) g) (first second : ℕ) (first_one : bit_at first 0 ≡ one_bit words g.rhs0)
    (first_zero : bit_at first 32 ≡ zero_bit words g.rhs0) (second_one : bit_at second 0 ≡ one_bit words g.rhs1)
    (second_zero : bit_at second 32 ≡ zero_bit words g.rhs1) where
  lt0 : g.rhs0 / 2 < 32 * length words
  lt0 = cell_within words cells are (variable g.rhs0) places.rhs0

  lt1 : g.rhs1 / 2 < 32 * length words
  lt1 = cell_within words cells are (variable g.rhs1) places.rhs1

  one_after : bit_at (bit_and first second) 0 ≡ min (one_bit words g.rhs0) (one_bit words g.rhs1)
  one_after = bit_at_and first second 0 ∙ ap₂ min first_one second_one

  zero_after : bit_at (bit_or first second) 32 ≡ max (zero_bit words g.rhs0) (zero_bit words g.rhs1)
  zero_after = bit_at_or first second 32 ∙ ap₂ max first_zero second_zero

  apart0 : one_bit words g.rhs0 + zero_bit words g.rhs0 < 2
  apart0 = literal_apart words g.rhs0 whole lt0

  apart1 : one_bit words g.rhs1 + zero_bit words g.rhs1 < 2
  apart1 = literal_apart words g.rhs1 whole lt1

  -- the bits of the gate's value
  pub gate_apart : bit_at (bit_and first second) 0 + bit_at (bit_or first second) 32 < 2
  gate_apart =
      let h = and_apart (one_bit words g.rhs0) (zero_bit words g.rhs0) (one_bit words g.rhs1) (zero_bit words g.rhs1) apart0 apart1 in
      omega (arith, one_after, zero_after, h)

  pub gate_bits : value_of (bit_at (bit_and first second) 0) (bit_at (bit_or first second) 32) ≡ gate_value cells g
  gate_bits =
      ap₂ value_of one_after zero_after
      ∙ and_value (one_bit words g.rhs0) (zero_bit words g.rhs0) (one_bit words g.rhs1) (zero_bit words g.rhs1) apart0 apart1
      ∙ ap₂ kleene_and (literal_cell words g.rhs0 whole lt0) (literal_cell words g.rhs1 whole lt1)
      ∙ ap (λ (row : List Tern). gate_value row g) are

  module _ (v before change : ℕ) (v_is : v ≡ variable g.lhs) (was_one : bit_at before 0 ≡ bit_in (ones words) v)
      (was_zero : bit_at before 32 ≡ bit_in (zeros words) v)
      (one : bit_at change 0 ≡ (bit_at (bit_and first second) 0 + bit_at before 0) % 2)
      (nought : bit_at change 32 ≡ (bit_at (bit_or first second) 32 + bit_at before 32) % 2) where
    v_within : v < length cells
    v_within = omega (arith, v_is, places.lhs)

    cell_now : get_or cells (variable g.lhs) X ≡ value_of (bit_at before 0) (bit_at before 32)
    cell_now =
        ap (λ (i : ℕ). get_or cells i X) (sym v_is) ∙ read_cell words cells are v v_within
        ∙ ap₂ value_of (sym was_one) (sym was_zero)

    -- nothing changes: the cell has the gate's value
    module _ (none : change ≡ 0) where
      none_at : (i : ℕ) → bit_at change i ≡ 0
      none_at i = ap (λ (n : ℕ). bit_at n i) none ∙ bit_at-zero i

      pub same_cell : gate_value cells g ≡ get_or cells (variable g.lhs) X
      same_cell =
          sym gate_bits
          ∙ ap₂ value_of
          (same_bit (bit_at (bit_and first second) 0) (bit_at before 0) (bit_at change 0) (bit_at-lt (bit_and first second) 0)
          (bit_at-lt before 0) one (none_at 0))
          (same_bit (bit_at (bit_or first second) 32) (bit_at before 32) (bit_at change 32) (bit_at-lt (bit_or first second) 32)
          (bit_at-lt before 32) nought (none_at 32))
          ∙ sym cell_now

      pub same_cells : cells ≡ set cells (variable g.lhs) (gate_value cells g)
      same_cells = sym (set-get_or cells (variable g.lhs) X) ∙ ap (set cells (variable g.lhs)) (sym same_cell)

    -- the cell has the gate's value: nothing changes
    pub none_changes : ((i : ℕ) → i ≢ 0 → i ≢ 32 → bit_at change i ≡ 0) → gate_value cells g ≡ get_or cells (variable g.lhs) X
        → change ≡ 0
    none_changes alone e =
        let before_apart : bit_at before 0 + bit_at before 32 < 2 =
        omega (arith, was_one, was_zero, whole_at words v whole (cell_within words cells are v v_within)) in
        let same =
        same_bits (bit_at (bit_and first second) 0) (bit_at (bit_or first second) 32) (bit_at before 0) (bit_at before 32) gate_apart
        before_apart (gate_bits ∙ e ∙ cell_now) in
        none_set change
        (no_change (bit_at (bit_and first second) 0) (bit_at before 0) (bit_at change 0) (bit_at-lt (bit_and first second) 0)
        (bit_at-lt before 0) one same.0)
        (no_change (bit_at (bit_or first second) 32) (bit_at before 32) (bit_at change 32) (bit_at-lt (bit_or first second) 32)
        (bit_at-lt before 32) nought same.1)
        alone

-- a cell whose bits were changed to those that are wanted
module _ (words new : List ℕ) (cells : List Tern) (v before for_one for_zero change : ℕ) (are : spelled words ≡ cells)
    (lt : v < length cells) (size : length new ≡ length words) (was_one : bit_at before 0 ≡ bit_in (ones words) v)
    (was_zero : bit_at before 32 ≡ bit_in (zeros words) v) (one : bit_at change 0 ≡ (bit_at for_one 0 + bit_at before 0) % 2)
    (nought : bit_at change 32 ≡ (bit_at for_zero 32 + bit_at before 32) % 2)
    (new_one : bit_in (ones new) v ≡ (bit_in (ones words) v + bit_at change 0) % 2)
    (new_zero : bit_in (zeros new) v ≡ (bit_in (zeros words) v + bit_at change 32) % 2)
    (same_ones : (u : ℕ) → u < 32 * length words → u ≢ v → bit_in (ones new) u ≡ bit_in (ones words) u)
    (same_zeros : (u : ℕ) → u < 32 * length words → u ≢ v → bit_in (zeros new) u ≡ bit_in (zeros words) u) where
  within : v < 32 * length words
  within = cell_within words cells are v lt

  one_is : bit_in (ones new) v ≡ bit_at for_one 0
  one_is =
      flipped_is (bit_in (ones words) v) (bit_at for_one 0) (bit_at change 0) (bit_in (ones new) v)
      (bit_at-lt (get_or (ones words) (v / 64) 0) (v % 64)) (bit_at-lt for_one 0)
      (one ∙ ap (λ (b : ℕ). (bit_at for_one 0 + b) % 2) was_one) new_one

  zero_is : bit_in (zeros new) v ≡ bit_at for_zero 32
  zero_is =
      flipped_is (bit_in (zeros words) v) (bit_at for_zero 32) (bit_at change 32) (bit_in (zeros new) v)
      (bit_at-lt (get_or (zeros words) (v / 64) 0) (v % 64)) (bit_at-lt for_zero 32)
      (nought ∙ ap (λ (b : ℕ). (bit_at for_zero 32 + b) % 2) was_zero) new_zero

  pub changed_row : (x : Tern) → value_of (bit_at for_one 0) (bit_at for_zero 32) ≡ x → spelled new ≡ set cells v x
  changed_row x is =
      written_row words new v size within same_ones same_zeros
      ∙ ap₂ (λ (row : List Tern) (y : Tern). set row v y) are (ap₂ value_of one_is zero_is ∙ is)

  pub changed_whole : AreWhole words → bit_at for_one 0 + bit_at for_zero 32 < 2 → AreWhole new
  changed_whole whole apart =
      written_whole words new v size within same_ones same_zeros whole (omega (arith, one_is, zero_is, apart))
