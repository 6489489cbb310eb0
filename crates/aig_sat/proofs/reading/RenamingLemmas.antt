-- Clauses as they are spelled, and as they are meant.
use Rattle.std.proofs.Common.{◌≤◌, ◌++◌, ◌∷◌, [], ℕ, List, arith}
use Rattle.aig_sat.specs.proof.Steps.{AreLiterals, AreRenamed, IsRenamed}

-- one literal more
pub renamed_push : (formula : ℕ) (spelled meant : List ℕ) (s l : ℕ) → AreRenamed formula spelled meant
    → IsRenamed formula s l → AreRenamed formula (spelled ++ s ∷ []) (meant ++ l ∷ [])
renamed_push formula [] [] s l are is = (is, tt)
renamed_push formula [] (m ∷ meant) s l are is = absurd are
renamed_push formula (x ∷ spelled) [] s l are is = absurd are
renamed_push formula (x ∷ spelled) (m ∷ meant) s l (first, rest) is = (first, renamed_push formula spelled meant s l rest is)

-- more variables
pub literals_more : (variables more : ℕ) (clause : List ℕ) → variables ≤ more → AreLiterals variables clause
    → AreLiterals more clause
literals_more variables more clause le are = λ k d inside. omega (arith, are k d inside, le)
