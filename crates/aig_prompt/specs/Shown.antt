-- Bytes as a terminal shows them (our own choice).
-- Example: ESC is `\x1b`.
use Rattle.std.specs.Prelude.{ℕ, ◌+◌, ◌/◌, ◌%◌, ◌||◌, nat_lt, if◌then◌else◌, List, [], ◌∷◌}
use Rattle.std.specs.List.{flat_map}

-- a digit of base 16
abbrev pub hexadecimal_digit : ℕ → ℕ
hexadecimal_digit d = if nat_lt d 10 then 48 + d else 87 + d

-- a backslash, x and two digits, for a byte that a terminal may obey
abbrev pub escaped_byte : ℕ → List ℕ
escaped_byte b =
    if nat_lt b 32 || nat_lt 126 b then 92 ∷ 120 ∷ hexadecimal_digit (b / 16) ∷ hexadecimal_digit (b % 16) ∷ []
    else b ∷ []

abbrev pub escaped : List ℕ → List ℕ
escaped bytes = flat_map escaped_byte bytes
