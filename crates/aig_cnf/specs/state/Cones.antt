-- A cone that is found gate by gate, from the last gate on.
use Rattle.std.specs.Prelude.{◌≡◌, ℕ, ◌<◌, Bool, false, List, length, reverse, slice_index_or}
use Rattle.aig_parts.specs.Literal.{variable}
use Rattle.aig_parts.specs.declared.gate.Gate.{Gate}
use Rattle.aig_cnf.specs.Formula.{cone, reads}

-- each of n variables has a mark, which is true if the variable passes the test
pub record AreMarks (n : ℕ) (test : ℕ → Bool) (marks : List Bool) : Type 0 where
  pub size : length marks ≡ n
  pub each : (v : ℕ) → v < n → slice_index_or marks v false ≡ test v

-- the variables of a gate's literals are below n
pub record IsGateBelow (n : ℕ) (g : Gate) : Type 0 where
  pub lhs : variable g.lhs < n
  pub first : variable g.rhs0 < n
  pub second : variable g.rhs1 < n

-- the cone of the literals in these gates, which are the last ones: its gates from the last to the first, and the marks
-- of the variables that it reads
pub record IsCone (n : ℕ) (literals : List ℕ) (gates : List Gate) (marks : List Bool) (found : List Gate) : Type 0 where
  pub marks_are : AreMarks n (reads literals (cone literals gates)) marks
  pub found_is : found ≡ reverse (cone literals gates)
