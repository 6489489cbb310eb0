-- The table by which a circuit is renumbered: for each variable the one that stands for it.
-- Example: that of `examples/two_gates.aag` is 0, 1, 2, 3, 4.
use Rattle.std.specs.Prelude.{◌≡◌, ℕ, ◌+◌, ◌*◌, ◌<◌, ◌≤◌, List, length, slice_index, All}
use Rattle.aig_parts.specs.declared.gate.Gate.{Gate}
use Rattle.aig_parts.specs.declared.latch.Latch.{Latch}
use Rattle.aig_parts.specs.declared.raw.Raw.{Raw}
use Rattle.aig_parts.specs.Formed.{limit}
use Rattle.aig_parts.specs.Literal.{variable, with_sign}
use Rattle.aig_base.specs.Renumbered.{relabelled, relabelled_gate, relabelled_latch, renumbered_variable}

-- the table has the variable that stands for each
pub record IsRenumbering (raw : Raw) (order : List ℕ) (table : List ℕ) : Type 0 where
  pub size : length table ≡ raw.max_var + 1
  pub each : (v : ℕ) → v < length table → slice_index table v ≡ renumbered_variable raw order v

-- the table has an entry for the literal
abbrev pub IsInTable : List ℕ → ℕ → Type 0
IsInTable table l = variable l < length table

-- the literal that stands for l; negations are kept
unfoldable pub literal_by : List ℕ → ℕ → ℕ
literal_by table l = with_sign l (2 * slice_index table (variable l))

abbrev pub IsLatchListed : List ℕ → Latch → Type 0
IsLatchListed table x = IsInTable table x.lit × IsInTable table x.next × IsInTable table x.reset

abbrev pub latch_by : List ℕ → Latch → Latch
latch_by table = relabelled_latch (literal_by table)

abbrev pub IsGateListed : List ℕ → Gate → Type 0
IsGateListed table g = IsInTable table g.lhs × IsInTable table g.rhs0 × IsInTable table g.rhs1

-- with the greater right side first
abbrev pub gate_by : List ℕ → Gate → Gate
gate_by table = relabelled_gate (literal_by table)

-- the table has an entry for each literal of the circuit, and each entry is within the limit
pub record HasAllEntries (raw : Raw) (table : List ℕ) : Type 0 where
  pub entries : All (λ v. v ≤ limit) table
  pub inputs : All (IsInTable table) raw.inputs
  pub latches : All (IsLatchListed table) raw.latches
  pub outputs : All (IsInTable table) raw.outputs
  pub bad : All (IsInTable table) raw.bad
  pub constraints : All (IsInTable table) raw.constraints
  pub justice : All (All (IsInTable table)) raw.justice
  pub fairness : All (IsInTable table) raw.fairness
  pub gates : All (IsGateListed table) raw.gates

-- the renumbered circuit, by the table
abbrev pub renumbered_by : Raw → List ℕ → List ℕ → Raw
renumbered_by raw order table = relabelled (literal_by table) raw order
