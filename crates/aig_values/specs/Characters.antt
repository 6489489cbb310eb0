-- The character of a value in a stimulus and in a trace (our own choice).
-- Example: x is `x`, byte 120.
use Rattle.std.specs.Prelude.{ℕ}
use Rattle.aig_parts.specs.declared.ternary.Tern.{Tern}
use Rattle.aig_parts.specs.declared.ternary.Tern.TheVariants.{Zero, One, X}

-- `0`, `1` or `x`
abbrev pub character : Tern → ℕ
character Zero = 48
character One = 49
character X = 120
