-- What a bench is seen as: a circuit and the rows of its stimulus, and how many gates it evaluated so far (our own
-- choice).
-- Example: `examples/two_gates.aag` and the row `11`: literal 8 has value 1 at frame 0.
use Rattle.std.specs.Prelude.{ℕ, List}
use Rattle.aig_parts.specs.declared.raw.Raw.{Raw}
use Rattle.aig_parts.specs.declared.ternary.Tern.{Tern}
use Rattle.aig_base.specs.Value.{Value, start_of}
use Rattle.aig_values.specs.Trace.{IsTrace}

pub record CircuitAndRows : Type 0 where
  pub circuit : Raw
  pub rows : List (List Tern)

pub record BenchState : Type 0 where
  pub pair : CircuitAndRows
  pub evaluations : ℕ

-- the literal has the value at the frame, where the latches start by their resets
abbrev pub HasValue : CircuitAndRows → ℕ → ℕ → Tern → Type 0
HasValue p t l w = Value p.circuit (start_of p.circuit) p.rows t l w

-- the bytes are the trace of all rows
abbrev pub HasTrace : CircuitAndRows → List ℕ → Type 0
HasTrace p text = IsTrace p.circuit (start_of p.circuit) p.rows text
