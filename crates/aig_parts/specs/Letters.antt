-- The letters of sections in symbol lines (AIGER 1.0; AIGER 1.9 for properties).
-- Example: `i` is the letter of inputs, `c` that of constraints.
use Rattle.std.specs.Prelude.{ℕ}
use Rattle.aig_parts.specs.declared.symbols.Kind.{Kind}
use Rattle.aig_parts.specs.declared.symbols.Kind.TheVariants.{Input, Latch, Output, Bad, Constraint, Justice, Fairness}

-- i l o b c j f
abbrev pub letter : Kind → ℕ
letter Input = 105
letter Latch = 108
letter Output = 111
letter Bad = 98
letter Constraint = 99
letter Justice = 106
letter Fairness = 102
