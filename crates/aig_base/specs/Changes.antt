-- The changes of a circuit: other right sides of a gate, another reset of a latch, another literal at an output, one
-- more gate (our own choice).
-- Example: `examples/two_gates.aag` with one more gate of 9 and 2 has the gate `10 = 9 AND 2`.
use Rattle.std.specs.Prelude.{ℕ, ◌+◌, ◌*◌, ◌<◌, [], ◌∷◌, ◌++◌, map, nat_eq, slice_set, if◌then◌else◌}
use Rattle.aig_parts.specs.declared.gate.Gate.{Gate}
use Rattle.aig_parts.specs.declared.latch.Latch.{Latch}
use Rattle.aig_parts.specs.declared.raw.Raw.{Raw}
use Rattle.aig_parts.specs.declared.ternary.Tern.{Tern}
use Rattle.aig_parts.specs.declared.ternary.Tern.TheVariants.{Zero, One, X}
use Rattle.aig_parts.specs.Formed.{limit}
use Rattle.aig_parts.specs.Literal.{variable}
use Rattle.aig_base.specs.Sections.{IsDefined}

-- the gate, with these right sides if it is the one of this left side
abbrev pub rewired : ℕ → ℕ → ℕ → Gate → Gate
rewired lhs r0 r1 g = record {
  lhs = g.lhs;
  rhs0 = if nat_eq g.lhs lhs then r0 else g.rhs0;
  rhs1 = if nat_eq g.lhs lhs then r1 else g.rhs1;
}

-- the parts, with other right sides at one gate
abbrev pub with_gate : Raw → ℕ → ℕ → ℕ → Raw
with_gate raw lhs r0 r1 = record raw { gates = map (rewired lhs r0 r1) raw.gates }

-- the reset of a latch that starts at a value; x is the latch's own literal (AIGER 1.9, resets)
abbrev pub reset_literal : ℕ → Tern → ℕ
reset_literal lit Zero = 0
reset_literal lit One = 1
reset_literal lit X = lit

-- the latch, with this start if it is the one of this literal
abbrev pub restarted : ℕ → Tern → Latch → Latch
restarted lit w x =
    record { lit = x.lit; next = x.next; reset = if nat_eq x.lit lit then reset_literal lit w else x.reset }

-- the parts, with another reset at one latch
abbrev pub with_reset : Raw → ℕ → Tern → Raw
with_reset raw lit w = record raw { latches = map (restarted lit w) raw.latches }

-- the parts, with another literal at one output
abbrev pub with_output : Raw → ℕ → ℕ → Raw
with_output raw position lit = record raw { outputs = slice_set raw.outputs position lit }

-- the gate of the variable after the greatest, with these right sides
abbrev pub next_gate : Raw → ℕ → ℕ → Gate
next_gate raw r0 r1 = record { lhs = 2 * (raw.max_var + 1); rhs0 = r0; rhs1 = r1 }

-- there is room for one more variable, and both right sides are defined
pub record CanAppend (raw : Raw) (r0 r1 : ℕ) : Type 0 where
  pub room : raw.max_var < limit
  pub defined0 : IsDefined raw (variable r0)
  pub defined1 : IsDefined raw (variable r1)

-- the parts, with this gate at the end of the gates, and its variable the greatest
abbrev pub with_appended_gate : Raw → ℕ → ℕ → Raw
with_appended_gate raw r0 r1 = record raw { max_var = raw.max_var + 1; gates = raw.gates ++ next_gate raw r0 r1 ∷ [] }
