-- What follows a command's letter and a space.
use Rattle.std.specs.Prelude.{ℕ, ◌^◌, ◌<◌, List, [], ◌∷◌, ◌++◌}
use Rattle.std.specs.Fmt.{decimal}
use Rattle.aig_parts.specs.declared.ternary.Tern.{Tern}
use Rattle.aig_values.specs.Characters.{character}

-- a number of a script
abbrev pub IsNumber : ℕ → Type 0
IsNumber n = n < 2 ^ 32

-- a number, and a space in front of what follows
abbrev pub number_field : ℕ → List ℕ → List ℕ
number_field n rest = decimal n ++ 32 ∷ rest

-- gate and right sides
abbrev pub rewire_fields : ℕ → ℕ → ℕ → List ℕ
rewire_fields lhs r0 r1 = number_field lhs (number_field r0 (decimal r1))

-- latch and value
abbrev pub reset_fields : ℕ → Tern → List ℕ
reset_fields latch w = number_field latch (character w ∷ [])

-- frame, position and value
abbrev pub bit_fields : ℕ → ℕ → Tern → List ℕ
bit_fields t p w = number_field t (number_field p (character w ∷ []))

-- two numbers
abbrev pub two_fields : ℕ → ℕ → List ℕ
two_fields m n = number_field m (decimal n)
