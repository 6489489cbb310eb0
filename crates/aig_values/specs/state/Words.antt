-- Cells in two planes of bits, ones and zeros, each a list of words of 64: cell v has bit v % 64 of word v / 64 of both.
-- Example: the planes 1 and 6 begin with the cells 1, 0, 0, x.
use Rattle.std.specs.Prelude.{ℕ, zero, suc, ◌+◌, ◌*◌, ◌/◌, ◌%◌, ◌^◌, ◌<◌, List, [], ◌∷◌, length, map, slice_index, nat_eq}
use Rattle.std.specs.Prelude.{if◌then◌else◌}
use Rattle.std.specs.Int.{bit_at}
use Rattle.std.specs.List.{range_with_len}
use Rattle.aig_parts.specs.declared.ternary.Tern.{Tern}
use Rattle.aig_parts.specs.declared.ternary.Tern.TheVariants.{Zero, One, X}

-- the value of a cell by its bit of ones and its bit of zeros: with neither it is x
abbrev pub value_of : ℕ → ℕ → Tern
value_of zero zero = X
value_of zero (suc n) = Zero
value_of (suc n) m = One

-- the bits of a value
abbrev pub one_of : Tern → ℕ
one_of Zero = 0
one_of One = 1
one_of X = 0

abbrev pub zero_of : Tern → ℕ
zero_of Zero = 1
zero_of One = 0
zero_of X = 0

-- the halves of a word
abbrev pub lower : ℕ → ℕ
lower word = word % 2 ^ 32

abbrev pub upper : ℕ → ℕ
upper word = word / 2 ^ 32 % 2 ^ 32

-- In memory a word has 32 cells: the halves of an even word are those of ones and of zeros, those of an odd word are
-- swapped.

-- the plane of ones of words in memory
unfoldable pub ones : List ℕ → List ℕ
ones [] = []
ones (even ∷ []) = lower even ∷ []
ones (even ∷ odd ∷ words) = (upper odd * 2 ^ 32 + lower even) ∷ ones words

-- the plane of zeros
unfoldable pub zeros : List ℕ → List ℕ
zeros [] = []
zeros (even ∷ []) = upper even ∷ []
zeros (even ∷ odd ∷ words) = (lower odd * 2 ^ 32 + upper even) ∷ zeros words

-- the bit of a cell in a plane
abbrev pub bit_in : List ℕ → ℕ → ℕ
bit_in plane v = bit_at (slice_index plane (v / 64)) (v % 64)

-- the value of a cell by both planes
abbrev pub cell_in : List ℕ → List ℕ → ℕ → Tern
cell_in first second v = value_of (bit_in first v) (bit_in second v)

-- the values of the cells of words in memory
unfoldable pub spelled : List ℕ → List Tern
spelled words = map (cell_in (ones words) (zeros words)) (range_with_len 0 (32 * length words))

-- no cell has both bits
unfoldable pub AreWhole : List ℕ → Type 0
AreWhole words = (v : ℕ) → v < 32 * length words → bit_in (ones words) v + bit_in (zeros words) v < 2

-- the bits of a literal's value: those of its variable, which a negation swaps
abbrev pub one_bit : List ℕ → ℕ → ℕ
one_bit words l = if nat_eq (l % 2) 0 then bit_in (ones words) (l / 2) else bit_in (zeros words) (l / 2)

abbrev pub zero_bit : List ℕ → ℕ → ℕ
zero_bit words l = if nat_eq (l % 2) 0 then bit_in (zeros words) (l / 2) else bit_in (ones words) (l / 2)

-- The bits of 32 cells in one word: bit k of ones, and bit 32 + k of zeros.

-- the value of a cell of such a word
abbrev pub value_in : ℕ → ℕ → Tern
value_in bits k = value_of (bit_at bits k) (bit_at bits (32 + k))

-- the value of a cell of a group: four bits of ones, and above them four of zeros
abbrev pub group_value : ℕ → ℕ → Tern
group_value group k = value_of (bit_at group k) (bit_at group (4 + k))
