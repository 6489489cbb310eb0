-- The names of vectors, each with whether it is that of only one, as the program holds them.
use Rattle.std.specs.Prelude.{ℕ, zero, suc, Bool, true, false, Option, None, Some}

-- what is known of a name that so many vectors have
abbrev pub seen : ℕ → Option Bool
seen zero = None
seen (suc zero) = Some true
seen (suc (suc n)) = Some false

-- the same with one vector more, which has this name or another
abbrev pub noted : Bool → Option Bool → Option Bool
noted false known = known
noted true None = Some true
noted true (Some once) = Some false

-- whether a name is known as that of only one
abbrev pub is_once : Option Bool → Bool
is_once None = false
is_once (Some once) = once
