-- Literals (AIGER 1.0, ASCII format). A literal is a number. Its variable is the half of it, rounded down, and an odd
-- literal is the negation of the even one below it.
-- Example: literal 9 has variable 4 and negates 8.
use Rattle.std.specs.Prelude.{◌≡◌, ℕ, ◌+◌, ◌-◌, ◌/◌, ◌%◌, nat_eq, if◌then◌else◌}

abbrev pub variable : ℕ → ℕ
variable l = l / 2

abbrev pub IsNegated : ℕ → Type 0
IsNegated l = l % 2 ≡ 1

abbrev pub IsEven : ℕ → Type 0
IsEven l = l % 2 ≡ 0

-- the same variable with the other sign
abbrev pub negation : ℕ → ℕ
negation l = if nat_eq (l % 2) 0 then l + 1 else l - 1

-- the literal l with its sign turned where s is odd
abbrev pub with_sign : ℕ → ℕ → ℕ
with_sign s l = if nat_eq (s % 2) 0 then l else negation l
