-- Literals as numbers with a sign; for proofs.
use Rattle.std.specs.Prelude.{ℕ, ◌+◌, ◌%◌, nat_eq, Bool, not, List, decimal}
use Rattle.aig_parts.specs.Literal.{variable}

-- whether the literal is negated, and the digits of its variable, from 1
abbrev pub literal_term : ℕ → Bool × List ℕ
literal_term l = (not (nat_eq (l % 2) 0), decimal (variable l + 1))
