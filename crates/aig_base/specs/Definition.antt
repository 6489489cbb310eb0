-- What defines a variable: an input, a latch or a gate, by its position in its section.
-- Example: in `examples/two_gates.aag` variable 4 is gate 0.
use Rattle.std.specs.Prelude.{◌≡◌, ℕ, map, Some, Contains, slice_get}
use Rattle.aig_parts.specs.declared.gate.Gate.{Gate}
use Rattle.aig_parts.specs.declared.latch.Latch.{Latch}
use Rattle.aig_parts.specs.declared.raw.Raw.{Raw}
use Rattle.aig_base.specs.declared.circuit.definition.Definition.{Definition}
use Rattle.aig_base.specs.declared.circuit.definition.Definition.TheVariants as definition
use Rattle.aig_parts.specs.Literal.{variable}
use Rattle.aig_base.specs.Renumbered.{evens}
use Rattle.aig_base.specs.Sections.{definitions}

abbrev pub Defines : Raw → ℕ → Definition → Type 0
Defines raw v (definition.Input p) = (l : ℕ) × (slice_get raw.inputs p ≡ Some l) × (variable l ≡ v)
Defines raw v (definition.Latch p) = (x : Latch) × (slice_get raw.latches p ≡ Some x) × (variable x.lit ≡ v)
Defines raw v (definition.Gate q) = (g : Gate) × (slice_get raw.gates q ≡ Some g) × (variable g.lhs ≡ v)

-- nothing defines the variable
abbrev pub IsFree : Raw → ℕ → Type 0
IsFree raw v = Contains (map variable (definitions raw)) v → ⊥

-- inputs, latches and left sides are in order the literals 2, 4, .., 2M
abbrev pub IsInOrder : Raw → Type 0
IsInOrder raw = definitions raw ≡ evens raw.max_var
