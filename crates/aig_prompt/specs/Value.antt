-- Values as people type them (our own choice, after Verilog's integer constants).
-- Example: `a5` and `8'd165` are the bits 1, 0, 1, 0, 0, 1, 0, 1 from bit 0 up; `1x` is x and then 1; `x` is x for each
-- bit.
use Rattle.std.specs.Prelude.{◌≡◌, ◌≢◌, ◌⊎◌, ℕ, zero, suc, ◌+◌, ◌-◌, ◌*◌, ◌/◌, ◌%◌, ◌^◌, ◌<◌, ◌≤◌, ◌==◌, ◌||◌, Bool}
use Rattle.std.specs.Prelude.{true, false, nat_lt, nat_le, if◌then◌else◌, List, [], ◌∷◌, ◌++◌, length, map, reverse}
use Rattle.std.specs.Prelude.{take, drop, replicate, All, Contains, decimal, codes, fold, Option, None, Some}
use Rattle.std.specs.List.{flat_map, list_any}
use Rattle.std.specs.Option.{unwrap_or}
use Rattle.aig_parts.specs.declared.ternary.Tern.{Tern}
use Rattle.aig_parts.specs.declared.ternary.Tern.TheVariants.{Zero, One, X}
use Rattle.aig_prompt.specs.declared.value.ValueFault.{ValueFault}
use Rattle.aig_prompt.specs.declared.value.ValueFault.TheVariants as faults

abbrev pub bit_value : Bool → Tern
bit_value true = One
bit_value false = Zero

-- the number that a digit of base 16 is
abbrev pub digit_of : ℕ → Option ℕ
digit_of b =
    if nat_le 48 b then (if nat_le b 57 then Some (b - 48)
    else (if nat_le 97 b then (if nat_le b 102 then Some (b - 87) else None)
    else (if nat_le 65 b then (if nat_le b 70 then Some (b - 55) else None) else None))) else None

-- 0 1 x
abbrev pub letter_value : ℕ → Option Tern
letter_value b =
    if b == 48 then Some Zero else (if b == 49 then Some One else (if b == 120 || b == 88 then Some X else None))

abbrev pub is_unknown : ℕ → Bool
is_unknown b = b == 120 || b == 88

-- whether a byte of a text is the letter of x
abbrev pub has_unknown : List ℕ → Bool
has_unknown text = list_any is_unknown text

abbrev pub IsBit : ℕ → Type 0
IsBit b = (b ≡ 48) ⊎ (b ≡ 49)

-- a digit of a base
abbrev pub IsDigit : ℕ → ℕ → Type 0
IsDigit base b = (d : ℕ) × (digit_of b ≡ Some d) × (d < base)

-- digits of a base, one at least
abbrev pub IsNumeral : ℕ → List ℕ → Type 0
IsNumeral base digits = (digits ≢ []) × All (IsDigit base) digits

-- the number of a digit; of what is none 0
abbrev pub digit_number : ℕ → ℕ
digit_number b = unwrap_or (digit_of b) 0

-- the number that digits of a base spell
abbrev pub numeral : ℕ → List ℕ → ℕ
numeral base digits = fold (λ n b. n * base + digit_number b) 0 digits

-- the bits of a digit of base 16, from bit 0 up
abbrev pub digit_bits : ℕ → List Tern
digit_bits d = bit_value (d % 2 == 1) ∷ bit_value (d / 2 % 2 == 1) ∷ bit_value (d / 4 % 2 == 1) ∷ bit_value (d / 8 % 2 == 1) ∷ []

-- the bits of digits of base 16, from bit 0 up
abbrev pub digits_bits : List ℕ → List Tern
digits_bits digits = flat_map (λ b. digit_bits (digit_number b)) (reverse digits)

-- bits that are the first of all, with 0 after them; those of all that are left out are 0
pub record IsFitted (all bits : List Tern) : Type 0 where
  pub bits_are : bits ≡ take (length bits) all ++ replicate (length bits - length all) Zero
  pub others : All (λ w. w ≡ Zero) (drop (length bits) all)

-- the value of digits of base 16
abbrev pub AreHexadecimalDigits : List ℕ → List Tern → Type 0
AreHexadecimalDigits digits bits = IsNumeral 16 digits × IsFitted (digits_bits digits) bits

-- the first bits of a number, from bit 0 up
unfoldable pub number_bits : ℕ → ℕ → List Tern
number_bits zero n = []
number_bits (suc count) n = bit_value (n % 2 == 1) ∷ number_bits count (n / 2)

-- the value of decimal digits, whose number has 64 bits at most
abbrev pub AreDecimalDigits : List ℕ → List Tern → Type 0
AreDecimalDigits digits bits =
    IsNumeral 10 digits × (numeral 10 digits < 2 ^ 64) × IsFitted (number_bits 64 (numeral 10 digits)) bits

-- one letter for each bit, the last bit first
abbrev pub AreLetters : List ℕ → List Tern → Type 0
AreLetters letters bits = map letter_value letters ≡ map Some (reverse bits)

-- the letter of x alone
abbrev pub IsUnknown : List ℕ → Type 0
IsUnknown text = (b : ℕ) × (text ≡ b ∷ []) × (is_unknown b ≡ true)

-- after a quote a base, and digits or letters
pub data ReadsBase (rest : List ℕ) (bits : List Tern) : Type 0 where
  in_base_16 : (digits : List ℕ) → rest ≡ 104 ∷ digits → AreHexadecimalDigits digits bits → ReadsBase rest bits
  in_base_10 : (digits : List ℕ) → rest ≡ 100 ∷ digits → AreDecimalDigits digits bits → ReadsBase rest bits
  in_base_2 : (letters : List ℕ) → rest ≡ 98 ∷ letters → AreLetters letters bits → ReadsBase rest bits

-- before a quote the width
abbrev pub ReadsSized : List ℕ → List ℕ → List Tern → Type 0
ReadsSized size rest bits = (size ≡ decimal (length bits)) × ReadsBase rest bits

-- a text that is a value: x for all bits; letters of which one is x; digits of base 16; or the width, a quote, a base
-- and digits or letters
pub data Reads (text : List ℕ) (bits : List Tern) : Type 0 where
  reads_unknown : IsUnknown text → bits ≡ replicate (length bits) X → Reads text bits
  reads_letters : has_unknown text ≡ true → AreLetters text bits → Reads text bits
  reads_digits : AreHexadecimalDigits text bits → Reads text bits
  reads_sized : (size rest : List ℕ) → text ≡ size ++ 39 ∷ rest → ReadsSized size rest bits → Reads text bits

-- no value of so many bits, or no memory for it
abbrev pub RefusesBits : (List Tern → Type 0) → ℕ → ValueFault → Type 0
RefusesBits P width fault = fault ≢ faults.Memory → (bits : List Tern) → length bits ≡ width → P bits → ⊥

abbrev pub RefusesValue : List ℕ → ℕ → ValueFault → Type 0
RefusesValue text width fault = RefusesBits (Reads text) width fault
