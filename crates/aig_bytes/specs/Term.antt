-- Numbers with a sign, as text.
use Rattle.std.specs.Prelude.{ℕ, Bool, if◌then◌else◌, List, [], ◌∷◌, ◌++◌}

-- a minus where the number is negative
abbrev pub minus : Bool → List ℕ
minus is_negative = if is_negative then 45 ∷ [] else []

-- the sign, the digits and a space
abbrev pub term_text : Bool × List ℕ → List ℕ
term_text t = minus t.0 ++ (t.1 ++ 32 ∷ [])
