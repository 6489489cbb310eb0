-- What the sections of a circuit define and use (AIGER 1.0, ASCII format; AIGER 1.9, header).
-- Example: in `examples/two_gates.aag` the definitions are 2, 4, 8, 6, and the uses 8, 6, 2, 2, 4.
use Rattle.std.specs.Prelude.{ℕ, List, [], ◌∷◌, ◌++◌, map, flat_map, Contains}
use Rattle.aig_parts.specs.declared.raw.Raw.{Raw}
use Rattle.aig_parts.specs.Literal.{variable}

-- the literals that the inputs, latches and gates define
abbrev pub definitions : Raw → List ℕ
definitions raw = raw.inputs ++ map (λ x. x.lit) raw.latches ++ map (λ g. g.lhs) raw.gates

-- the literals that something reads
abbrev pub uses : Raw → List ℕ
uses raw =
    map (λ x. x.next) raw.latches ++ raw.outputs ++ raw.bad ++ raw.constraints
    ++ flat_map (λ p. p) raw.justice ++ raw.fairness
    ++ flat_map (λ g. g.rhs0 ∷ g.rhs1 ∷ []) raw.gates

-- the variable is defined; 0 counts as defined
abbrev pub IsDefined : Raw → ℕ → Type 0
IsDefined raw v = Contains (0 ∷ map variable (definitions raw)) v

-- the variable is one of a gate
abbrev pub IsGate : Raw → ℕ → Type 0
IsGate raw v = Contains (map (λ g. variable g.lhs) raw.gates) v

-- the literal is the left side of a gate
abbrev pub IsLeftSide : Raw → ℕ → Type 0
IsLeftSide raw l = Contains (map (λ g. g.lhs) raw.gates) l

-- the literal is the one of a latch
abbrev pub IsLatchLiteral : Raw → ℕ → Type 0
IsLatchLiteral raw l = Contains (map (λ x. x.lit) raw.latches) l
