-- Rows that are edited apart from their bench.
use Rattle.std.specs.Prelude.{◌≡◌, ℕ, List, length}
use Rattle.aig_parts.specs.declared.raw.Raw.{Raw}
use Rattle.aig_parts.specs.declared.ternary.Tern.{Tern}
use Rattle.aig_bench.specs.BenchState.{CircuitAndRows}
use Rattle.aig_bench.specs.Edit.{Edit}
use Rattle.aig_values.specs.InputRows.{InputRows}
use Rattle.aig_shell.specs.State.{Leads}

-- the circuit and the rows
abbrev pub with_rows : Raw → List (List Tern) → CircuitAndRows
with_rows raw rows = record { circuit = raw; rows = rows }

-- with any circuit of so many inputs these edits lead from some rows to others
abbrev pub RowsLead : ℕ → List (List Tern) → List Edit → List (List Tern) → Type 0
RowsLead width rows edits new =
    (raw : Raw) → length raw.inputs ≡ width → Leads (with_rows raw rows) edits (with_rows raw new)

-- these edits lead from the old rows to the new ones, which are as many and as wide
pub record RowsBecome (old : InputRows) (edits : List Edit) (new : InputRows) : Type 0 where
  pub leads : RowsLead old.width old.rows edits new.rows
  pub frames : length new.rows ≡ length old.rows
  pub width : new.width ≡ old.width
