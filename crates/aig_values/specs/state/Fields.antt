-- The fields of a trace line as the program holds them.
use Rattle.std.specs.Prelude.{ℕ, List, map}
use Rattle.aig_values.specs.declared.trace_line.Field.{Field}
use Rattle.aig_values.specs.declared.trace_line.Field.TheVariants as field

-- the literals that a field shows
abbrev pub literals_of : Field → List ℕ
literals_of (field.Literals literals) = literals.now
literals_of (field.States latches) = map (λ x. x.lit) latches.now
literals_of (field.NextStates latches) = map (λ x. x.next) latches.now
