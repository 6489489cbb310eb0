-- The bytes between the words of a line that a person types (our own choice).
-- Example: a tab becomes a space.
use Rattle.std.specs.Prelude.{ℕ, ◌==◌, ◌||◌, if◌then◌else◌}

-- a tab and a carriage return are as a space
abbrev pub spaced_byte : ℕ → ℕ
spaced_byte b = if b == 9 || b == 13 then 32 else b
