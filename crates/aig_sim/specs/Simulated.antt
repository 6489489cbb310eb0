-- What a simulation read and wrote.
-- Example: `11/1z/`: read to line 2, the trace of one row is written, `Char(2)`.
use Rattle.std.specs.Prelude.{◌≡◌, ◌⊎◌, ℕ, ◌+◌, ◌-◌, ◌^◌, min, List, [], ◌++◌, length, Option, Result, Ok, Err}
use Rattle.std.specs.List.{flat_map}
use Rattle.aig_parts.specs.declared.ternary.Tern.{Tern}
use Rattle.aig_parts.specs.declared.raw.Raw.{Raw}
use Rattle.aig_bytes.specs.Bytes.{before, after, IsAtEnd, IsBeginning}
use Rattle.aig_base.specs.Value.{start_of}
use Rattle.aig_sim.specs.declared.stimulus.fault.StimFault.{StimFault}
use Rattle.aig_sim.specs.declared.stimulus.fault.StimFault.TheVariants as fault
use Rattle.aig_values.specs.InputRows.{HaveWidth}
use Rattle.aig_sim.specs.StimulusText.{row_line, SpellsRows, HasFaultyLine, HoldsRows}
use Rattle.aig_values.specs.Trace.{IsTrace}

-- what the reader has left, and how many reads and writes failed
pub record Streams : Type 0 where
  pub left : Option (List ℕ)
  pub reads : ℕ
  pub writes : ℕ

-- no read and no write failed
abbrev pub NoneFailed : Streams → Streams → Type 0
NoneFailed old new = (new.reads ≡ old.reads) × (new.writes ≡ old.writes)

abbrev pub OneReadFailed : Streams → Streams → Type 0
OneReadFailed old new = (new.reads ≡ old.reads + 1) × (new.writes ≡ old.writes)

abbrev pub OneWriteFailed : Streams → Streams → Type 0
OneWriteFailed old new = (new.reads ≡ old.reads) × (new.writes ≡ old.writes + 1)

-- the text begins with these rows
pub record BeginsWithRows (width : ℕ) (text : List ℕ) (rows : List (List Tern)) : Type 0 where
  pub widths : HaveWidth width rows
  pub rest : List ℕ
  pub text_is : text ≡ flat_map row_line rows ++ rest

-- the text was read to its end, or to a line with the fault
abbrev pub ReadsFault : ℕ → Streams → List ℕ → List (List Tern) → StimFault → Type 0
ReadsFault width new text rows fault.Unfinished = HasFaultyLine width text rows fault.Unfinished × IsAtEnd new.left
ReadsFault width new text rows (fault.Char n) = HasFaultyLine width text rows (fault.Char n)
ReadsFault width new text rows (fault.Length n) = HasFaultyLine width text rows (fault.Length n)
ReadsFault width new text rows fault.Limit = ⊥
ReadsFault width new text rows fault.Memory = (text ≡ []) × (rows ≡ [])
ReadsFault width new text rows fault.Io = ⊥

-- How a simulation ends that has read this text: its rows have the trace, of which `done` was written.
-- All went well: the text spells the rows, the whole trace was written, and the answer is the number of rows, where the
-- greatest number of 64 bits stands for any greater. A fault: so far as the good rows go. A failing read: all rows that
-- were read whole. A failing write: a beginning; it may be all, where a flush failed.
abbrev pub SimulationEnds : ℕ → Streams → Streams → List ℕ → List (List Tern) → List ℕ → List ℕ → Result ℕ StimFault
    → Type 0
SimulationEnds width old new text rows trace done (Ok n) =
    SpellsRows width text rows × IsAtEnd new.left × (done ≡ trace) × (n ≡ min (length rows) (2 ^ 64 - 1))
    × NoneFailed old new
SimulationEnds width old new text rows trace done (Err fault.Io) =
    (HoldsRows width text rows × (done ≡ trace) × OneReadFailed old new)
    ⊎ (BeginsWithRows width text rows × IsBeginning done trace × OneWriteFailed old new)
SimulationEnds width old new text rows trace done (Err fault) =
    ReadsFault width new text rows fault × (done ≡ trace) × NoneFailed old new

-- what was read and written
pub record Simulates (raw : Raw) (old new : Streams) (written written' : Option (List ℕ))
    (result : Result ℕ StimFault) : Type 0 where
  pub text : List ℕ
  pub rows : List (List Tern)
  pub trace : List ℕ
  pub done : List ℕ
  pub read : old.left ≡ before text new.left
  pub trace_is : IsTrace raw (start_of raw) rows trace
  pub wrote : written' ≡ after written done
  pub ended : SimulationEnds (length raw.inputs) old new text rows trace done result
