-- How bytes of files are shown, so that a terminal obeys none of them.
-- Example: of `a`, ESC, LF `escaped` is `a\x1b\x0a`, and `shown` is `a\x1b/`.
use Rattle.std.specs.Prelude.{ℕ, ◌+◌, ◌/◌, ◌%◌, ◌&&◌, ◌||◌, nat_eq, nat_lt, nat_le, IsTrue, Bool, if◌then◌else◌, List}
use Rattle.std.specs.Prelude.{[], ◌∷◌, All, flat_map, Option}
use Rattle.std.specs.Io.KnownBytes.{Appends}
use Rattle.aig_bytes.specs.Bytes.{IsBeginning}

-- a byte that a terminal shows as it is: 32 to 126
abbrev pub is_printable : ℕ → Bool
is_printable b = nat_le 32 b && nat_le b 126

-- each byte is
abbrev pub ArePrintable : List ℕ → Type 0
ArePrintable bytes = All (λ b. IsTrue (is_printable b)) bytes

-- 0 to 9 and a to f
abbrev pub hexadecimal_digit : ℕ → ℕ
hexadecimal_digit digit = if nat_lt digit 10 then 48 + digit else 87 + digit

-- a backslash, `x` and two hexadecimal digits
abbrev pub escape : ℕ → List ℕ
escape b = 92 ∷ 120 ∷ hexadecimal_digit (b / 16) ∷ hexadecimal_digit (b % 16) ∷ []

-- a byte in a message: as it is, or escaped
abbrev pub escaped_byte : ℕ → List ℕ
escaped_byte b = if is_printable b then b ∷ [] else escape b

-- each byte escaped
abbrev pub escaped : List ℕ → List ℕ
escaped text = flat_map escaped_byte text

-- a byte that stays in a text of lines: one that a terminal shows as it is, LF and TAB
abbrev pub is_plain : ℕ → Bool
is_plain b = is_printable b || nat_eq b 10 || nat_eq b 9

-- a byte of a text of lines: as it is, or escaped
abbrev pub shown_byte : ℕ → List ℕ
shown_byte b = if is_plain b then b ∷ [] else escape b

-- each byte of a text of lines
abbrev pub shown : List ℕ → List ℕ
shown text = flat_map shown_byte text

-- known bytes grow by the first of these bytes, or by none
abbrev pub AppendsSome : Option (List ℕ) → Option (List ℕ) → List ℕ → Type 0
AppendsSome old new bytes = (done : List ℕ) × IsBeginning done bytes × Appends old new done
