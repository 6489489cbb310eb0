-- The text of a formula (DIMACS).
-- Example: the clause `7 2` is `-4 2 0`.
use Rattle.std.specs.Prelude.{ℕ, ◌+◌, ◌%◌, nat_eq, if◌then◌else◌, List, [], ◌++◌, length, codes, decimal}
use Rattle.std.specs.List.{flat_map}
use Rattle.aig_parts.specs.Literal.{variable}
use Rattle.aig_parts.specs.declared.gate.Gate.{Gate}
use Rattle.aig_cnf.specs.Formula.{gate_clauses}

-- a minus where the literal is negated
abbrev pub sign_text : ℕ → List ℕ
sign_text l = if nat_eq (l % 2) 0 then [] else codes "-"

-- a literal and a space: its variable counts from 1
unfoldable pub literal_text : ℕ → List ℕ
literal_text l = sign_text l ++ (decimal (variable l + 1) ++ codes " ")

-- a clause: its literals, and a 0 that ends it
unfoldable pub clause_text : List ℕ → List ℕ
clause_text clause = flat_map literal_text clause ++ codes "0\n"

-- the clauses of a gate
unfoldable pub gate_text : Gate → List ℕ
gate_text g = flat_map clause_text (gate_clauses g)

-- the line that says how many variables and clauses there are
unfoldable pub problem_line : ℕ → ℕ → List ℕ
problem_line variables clauses =
    codes "p cnf " ++ ((decimal variables ++ codes " ") ++ (decimal clauses ++ codes "\n"))

unfoldable pub formula_text : ℕ → List (List ℕ) → List ℕ
formula_text variables clauses = problem_line variables (length clauses) ++ flat_map clause_text clauses
