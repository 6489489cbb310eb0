-- The value of a signal as text (Verilog, integer constants). A bit that is not meant is `?`.
-- Example: bits 1, 1, 0, 0 from bit 0 up are `4'h3`.
use Rattle.std.specs.Prelude.{ℕ, ◌+◌, ◌*◌, ◌/◌, ◌==◌, Bool, true, false, nat_lt, if◌then◌else◌, List, [], ◌∷◌, ◌++◌}
use Rattle.std.specs.Prelude.{length, map, reverse, decimal, codes, Option, None, Some, slice_index_or}
use Rattle.std.specs.List.{list_all, range_with_len}
use Rattle.aig_parts.specs.declared.ternary.Tern.{Tern}
use Rattle.aig_parts.specs.declared.ternary.Tern.TheVariants.{Zero, One, X}

-- 0 1 x ?
abbrev pub bit_letter : Option Tern → ℕ
bit_letter None = 63
bit_letter (Some Zero) = 48
bit_letter (Some One) = 49
bit_letter (Some X) = 120

abbrev pub is_unknown : Option Tern → Bool
is_unknown (Some X) = true
is_unknown bit = false

-- 0 or 1
abbrev pub is_known : Option Tern → Bool
is_known (Some Zero) = true
is_known (Some One) = true
is_known bit = false

-- the number that a bit is
abbrev pub bit_number : Option Tern → ℕ
bit_number (Some One) = 1
bit_number bit = 0

-- the bit at a place; over the end there is none
abbrev pub bit_at : List (Option Tern) → ℕ → Option Tern
bit_at bits k = slice_index_or bits k None

-- the number that four bits are, from place k up
abbrev pub four_bits : List (Option Tern) → ℕ → ℕ
four_bits bits k =
    bit_number (bit_at bits k) + 2 * bit_number (bit_at bits (k + 1)) + 4 * bit_number (bit_at bits (k + 2))
    + 8 * bit_number (bit_at bits (k + 3))

-- a digit of base 16
abbrev pub hexadecimal_digit : ℕ → ℕ
hexadecimal_digit d = if nat_lt d 10 then 48 + d else 87 + d

-- the digits of base 16, the last four bits first; digit d stands for the bits from 4 d up
abbrev pub hexadecimal : List (Option Tern) → List ℕ
hexadecimal bits = map (λ d. hexadecimal_digit (four_bits bits (d * 4))) (reverse (range_with_len 0 ((length bits + 3) / 4)))

-- the letters of the bits, the last bit first
abbrev pub binary : List (Option Tern) → List ℕ
binary bits = reverse (map bit_letter bits)

-- the value of bits from bit 0 up: of one bit its letter; x where all are x; else the width, and the digits of base 16
-- where all bits are 0 or 1, or the letters of the bits
unfoldable pub value_text : List (Option Tern) → List ℕ
value_text bits =
    if length bits == 1 then binary bits
    else (if list_all is_unknown bits then 120 ∷ []
    else (if list_all is_known bits then decimal (length bits) ++ (codes "'h" ++ hexadecimal bits)
    else decimal (length bits) ++ (codes "'b" ++ binary bits)))

-- the value as a table shows it, without the width
unfoldable pub table_text : List (Option Tern) → List ℕ
table_text bits =
    if length bits == 1 then binary bits
    else (if list_all is_unknown bits then 120 ∷ []
    else (if list_all is_known bits then hexadecimal bits else binary bits))
