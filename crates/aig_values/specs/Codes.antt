-- Values in two bits.
-- Example: 11 and 01 have the AND 01: 1 AND x is x.
use Rattle.std.specs.Prelude.{◌≡◌, ℕ, zero, suc}
use Rattle.aig_parts.specs.declared.ternary.Tern.{Tern}
use Rattle.aig_parts.specs.declared.ternary.Tern.TheVariants.{Zero, One, X}

-- the bits of a value: 00, 11, 01
abbrev pub bits_of : Tern → ℕ
bits_of Zero = 0
bits_of One = 3
bits_of X = 1

-- the value that has the bits
abbrev pub code_value : ℕ → Tern
code_value zero = Zero
code_value (suc zero) = X
code_value (suc (suc n)) = One

-- the bits are those of a value: not 10
abbrev pub IsCode : ℕ → Type 0
IsCode bits = bits_of (code_value bits) ≡ bits
