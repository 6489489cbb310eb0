-- Kleene's tables for 0, 1 and unknown (AIGER 1.9, resets; our own choice).
-- Example: `x AND 0` is 0, `x AND 1` is x.
use Rattle.aig_parts.specs.declared.ternary.Tern.{Tern}
use Rattle.aig_parts.specs.declared.ternary.Tern.TheVariants.{Zero, One, X}

-- 0 if either side is 0, 1 if both are 1, else x
abbrev pub kleene_and : Tern → Tern → Tern
kleene_and Zero b = Zero
kleene_and One b = b
kleene_and X Zero = Zero
kleene_and X One = X
kleene_and X X = X

abbrev pub kleene_not : Tern → Tern
kleene_not Zero = One
kleene_not One = Zero
kleene_not X = X
