-- A number in groups of seven bits (AIGER 1.0, binary format). A number below 128 is one byte; any greater n is the
-- byte 128 + n mod 128, followed by the spelling of n / 128.
-- Example: 300 is `ac 02`.
use Rattle.std.specs.Prelude.{ℕ, zero, suc, ◌+◌, ◌/◌, ◌%◌, List, [], ◌∷◌, nat_lt, if◌then◌else◌}

-- at most this many groups and one more
unfoldable pub groups : ℕ → ℕ → List ℕ
groups zero n = n ∷ []
groups (suc more) n = if nat_lt n 128 then n ∷ [] else (128 + n % 128) ∷ groups more (n / 128)

-- of a number below 2 ^ 28
unfoldable pub delta : ℕ → List ℕ
delta n = groups 3 n
