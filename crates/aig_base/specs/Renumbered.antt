-- The renumbered circuit (our own choice; its form is what AIGER 1.0 asks of a binary file).
-- Example: `examples/two_gates.aag` has the gates `6 = 4 AND 2`, `8 = 6 AND 2` then.
use Rattle.std.specs.Prelude.{◌≡◌, ℕ, ◌+◌, ◌*◌, ◌<◌, ◌≤◌, List, length, map, Option, find, All, nat_lt, ◌==◌}
use Rattle.std.specs.Prelude.{if◌then◌else◌}
use Rattle.std.specs.List.{filter_map, range_with_len}
use Rattle.aig_parts.specs.declared.gate.Gate.{Gate}
use Rattle.aig_parts.specs.declared.latch.Latch.{Latch}
use Rattle.aig_parts.specs.declared.raw.Raw.{Raw}
use Rattle.aig_parts.specs.Literal.{variable, with_sign}
use Rattle.aig_base.specs.Sections.{definitions}
use Rattle.aig_base.specs.Role as roles
use Rattle.aig_base.specs.Role.{Role, role}

-- the variable in the renumbered circuit: inputs first, then latches, then gates in the canonical order
abbrev pub role_variable : Raw → Role → ℕ
role_variable raw roles.constant = 0
role_variable raw (roles.input p) = p + 1
role_variable raw (roles.latch p) = length raw.inputs + p + 1
role_variable raw (roles.gate q) = length raw.inputs + length raw.latches + q + 1

-- the variable that stands for v
unfoldable pub renumbered_variable : Raw → List ℕ → ℕ → ℕ
renumbered_variable raw order v = role_variable raw (role raw order v)

-- the literal that stands for l; negations are kept
unfoldable pub renumbered_literal : Raw → List ℕ → ℕ → ℕ
renumbered_literal raw order l = with_sign l (2 * renumbered_variable raw order (variable l))

-- the gate with these sides, the greater right side first
abbrev pub ready_gate : ℕ → ℕ → ℕ → Gate
ready_gate lhs a b =
    if nat_lt a b then record { lhs = lhs; rhs0 = b; rhs1 = a } else record { lhs = lhs; rhs0 = a; rhs1 = b }

-- the gate of a variable, if it is one of a gate
abbrev pub gate_of : Raw → ℕ → Option Gate
gate_of raw v = find (λ g. variable g.lhs == v) raw.gates

-- the gates in the canonical order
abbrev pub ordered_gates : Raw → List ℕ → List Gate
ordered_gates raw order = filter_map (gate_of raw) order

-- the latch with other literals in place of its own
abbrev pub relabelled_latch : (ℕ → ℕ) → Latch → Latch
relabelled_latch new x = record { lit = new x.lit; next = new x.next; reset = new x.reset }

-- the gate with other literals in place of its own, the greater right side first
abbrev pub relabelled_gate : (ℕ → ℕ) → Gate → Gate
relabelled_gate new g = ready_gate (new g.lhs) (new g.rhs0) (new g.rhs1)

-- the circuit with other literals in place of its own, its gates in the canonical order and M as small as can be
abbrev pub relabelled : (ℕ → ℕ) → Raw → List ℕ → Raw
relabelled new raw order = record {
  max_var = length raw.inputs + length raw.latches + length raw.gates;
  inputs = map new raw.inputs;
  latches = map (relabelled_latch new) raw.latches;
  outputs = map new raw.outputs;
  bad = map new raw.bad;
  constraints = map new raw.constraints;
  justice = map (map new) raw.justice;
  fairness = map new raw.fairness;
  gates = map (relabelled_gate new) (ordered_gates raw order);
  symbols = raw.symbols;
  comment = raw.comment;
}

abbrev pub renumbered_latch : Raw → List ℕ → Latch → Latch
renumbered_latch raw order = relabelled_latch (renumbered_literal raw order)

abbrev pub renumbered_gate : Raw → List ℕ → Gate → Gate
renumbered_gate raw order = relabelled_gate (renumbered_literal raw order)

abbrev pub renumbered : Raw → List ℕ → Raw
renumbered raw order = relabelled (renumbered_literal raw order) raw order

-- the even literals of n variables from a variable on, in order
abbrev pub evens_from : ℕ → ℕ → List ℕ
evens_from v n = map (λ u. 2 * u) (range_with_len v n)

-- 2, 4, .., 2n: the literals of the variables 1, 2, .., n
abbrev pub evens : ℕ → List ℕ
evens n = evens_from 1 n

-- what a binary file can hold (AIGER 1.0, binary format): inputs, latches and left sides are in order the variables
-- 1, 2, .., M, and in each gate the left side is the greatest and the right sides do not rise
pub record IsBinaryReady (raw : Raw) : Type 0 where
  pub in_order : definitions raw ≡ evens raw.max_var
  pub gates : All (λ g. (g.rhs0 < g.lhs) × (g.rhs1 ≤ g.rhs0)) raw.gates
