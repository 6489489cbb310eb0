-- What holds of a session between two lines.
use Rattle.std.specs.Prelude.{◌≡◌, false, ℕ, ◌+◌, ◌*◌, List, All, length, Some, slice_get, ◌≢◌, ◌⊎◌, IsTrue}
use Rattle.std.specs.Prelude.{Bool, Option}
use Rattle.aig_base.specs.Resets.{HasOtherResets}
use Rattle.std.specs.Global.{Vec}
use Rattle.aig_parts.specs.declared.ternary.Tern.{Tern}
use Rattle.aig_parts.specs.declared.raw.Raw.{Raw}
use Rattle.aig_parts.specs.declared.symbols.Kind.{Kind}
use Rattle.aig_parts.specs.declared.symbols.Kind.TheVariants.{Output}
use Rattle.aig_base.specs.Circuit.{IsCircuit}
use Rattle.aig_base.specs.Sections.{IsDefined}
use Rattle.aig_base.specs.Value.{start_of}
use Rattle.aig_bench.specs.BenchState.{CircuitAndRows, HasValue}
use Rattle.aig_signals.specs.Names.{literals_of}
use Rattle.aig_values.specs.InputRows.{HaveWidth}
use Rattle.aig_why.specs.Why.{run_of}
use Rattle.aig_shell.specs.declared.session.run_kept.FirstRun.{FirstRun}
use Rattle.aig_shell.specs.declared.session.run_kept.KeptRun.{KeptRun}
use Rattle.aig_shell.specs.declared.session.Session.{Session}
use Rattle.aig_shell.specs.State.{SessionState}

-- after an edit all but the bench is as before, and this says whether the circuit is edited
pub record KeepsRest (old : Session) (has_edited_circuit : Bool) (new : Session) : Type 0 where
  pub latches : new.run.latches ≡ old.run.latches
  pub signals : new.signals ≡ old.signals
  pub first : new.first ≡ old.first
  pub kept : new.kept ≡ old.kept
  pub property : new.property ≡ old.property
  pub circuit : new.has_edited_circuit ≡ has_edited_circuit

-- the value that is kept of a variable at a frame
abbrev pub IsValueAt : FirstRun → ℕ → ℕ → Tern → Type 0
IsValueAt first t v w = (row : Vec Tern) × (slice_get first.rows.items t ≡ Some row) × (slice_get row.items v ≡ Some w)

-- what is kept are the values of all variables of the pair that was read, a circuit and rows that fit it, and its
-- outputs
pub record KeepsFirst (first : FirstRun) (p : CircuitAndRows) : Type 0 where
  pub circuit : IsCircuit p.circuit
  pub fits : HaveWidth (length p.circuit.inputs) p.rows
  pub outputs : first.outputs.items ≡ p.circuit.outputs
  pub frames : first.frames ≡ length p.rows
  pub rows : length first.rows.items ≡ length p.rows
  pub widths : All (λ (row : Vec Tern). length row.items ≡ p.circuit.max_var + 1) first.rows.items
  pub values : (t v : ℕ) (w : Tern) → IsDefined p.circuit v → IsValueAt first t v w → HasValue p t (2 * v) w

-- what is kept are the start and the rows of the pair
pub record KeepsRun (kept : KeptRun) (p : CircuitAndRows) : Type 0 where
  pub start : kept.start.items ≡ (run_of p).start
  pub rows : kept.rows.rows ≡ (run_of p).rows

-- the circuit of the bench, with the resets of the file
abbrev pub own_circuit : Session → Raw
own_circuit s = record s.run.bench.pair.circuit { latches = s.run.latches.items }

-- each section has the same entries, except which literals the outputs have
pub record HasSameEntries (old new : Raw) : Type 0 where
  pub outputs : length old.outputs ≡ length new.outputs
  pub others : (kind : Kind) → kind ≢ Output → literals_of old kind ≡ literals_of new kind

-- the pair is the one that was read, with the entries of the session's circuit
pub record IsFirst (session : Session) (p : CircuitAndRows) : Type 0 where
  pub keeps : KeepsFirst session.first p
  pub entries : HasSameEntries p.circuit session.run.bench.pair.circuit

-- the session is in this state
pub record IsIn (session : Session) (s : SessionState) : Type 0 where
  pub pair : s.pair ≡ session.run.bench.pair
  pub latches : s.latches ≡ session.run.latches.items
  pub property : s.property ≡ session.property
  pub first : KeepsFirst session.first s.first
  pub entries : HasSameEntries s.first.circuit session.run.bench.pair.circuit
  pub start : s.kept.start ≡ session.kept.start.items
  pub rows : s.kept.rows ≡ session.kept.rows.rows
  pub circuit : s.has_edited_circuit ≡ session.has_edited_circuit

-- something of the session would be lost at its end
abbrev pub HasUnsaved : Session → Type 0
HasUnsaved s = IsTrue s.has_edited_circuit ⊎ (KeepsRun s.kept s.run.bench.pair → ⊥)

-- the session that begins with a run of a circuit, and with the property that a witness names
abbrev pub first_state : Raw → Option ℕ → CircuitAndRows → SessionState
first_state raw property pair = record {
  pair = pair;
  latches = raw.latches;
  property = property;
  first = pair;
  kept = run_of pair;
  has_edited_circuit = false;
  has_warned = false;
}

-- the circuit with the start as its resets, as far as values and names go
pub record BeginsAt (raw : Raw) (start : List Tern) (rows : List (List Tern)) (pair : CircuitAndRows) : Type 0 where
  pub resets : HasOtherResets raw pair.circuit
  pub start_is : start_of pair.circuit ≡ start
  pub rows_are : pair.rows ≡ rows
