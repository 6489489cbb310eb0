-- Latches that are the same but for their resets.
use Rattle.std.specs.Prelude.{List, [], ◌∷◌}
use Rattle.std.specs.List.{AllZip}
use Rattle.std.specs.Coded.{Coded-set, Unit-prop, coded_ℕ, ×_prop}
use Rattle.aig_parts.specs.declared.latch.Latch.{Latch}
use Rattle.aig_base.specs.Resets.{IsSameLatch}

-- the latches have the same literals, one by one
abbrev pub AreAlike : List Latch → List Latch → Type 0
AreAlike xs ys = AllZip IsSameLatch xs ys

-- there is one proof of it
pub AreAlike-prop : (xs ys : List Latch) → IsProp (AreAlike xs ys)
AreAlike-prop [] [] = Unit-prop
AreAlike-prop [] (y ∷ ys) = λ h. absurd h
AreAlike-prop (x ∷ xs) [] = λ h. absurd h
AreAlike-prop (x ∷ xs) (y ∷ ys) =
    ×_prop (×_prop (Coded-set coded_ℕ _ _) (Coded-set coded_ℕ _ _)) (AreAlike-prop xs ys)
