-- Clauses of literals, and what satisfies a list of them (propositional logic). Literals are those of circuits.
-- Example: under values that make variable 1 true alone, literals 1 and 2 are true and 0 and 3 are false; the clause `3
-- 4` is not met.
use Rattle.std.specs.Prelude.{ℕ, ◌%◌, nat_eq, Bool, not, IsTrue, if◌then◌else◌, List}
use Rattle.std.specs.List.{list_all, list_any}
use Rattle.aig_parts.specs.Literal.{variable}

-- the literal under an assignment, which gives each variable a value
abbrev pub is_true : (ℕ → Bool) → ℕ → Bool
is_true values l = if nat_eq (l % 2) 0 then values (variable l) else not (values (variable l))

-- one of the clause's literals is true
abbrev pub meets : (ℕ → Bool) → List ℕ → Bool
meets values clause = list_any (is_true values) clause

-- each clause is met
abbrev pub Satisfies : (ℕ → Bool) → List (List ℕ) → Type 0
Satisfies values clauses = IsTrue (list_all (meets values) clauses)
