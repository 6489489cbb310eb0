-- What a dump of a simulation read and wrote.
-- Example: `11/1z/`: the header, frame 0 and no end are written, `Char(2)`.
use Rattle.std.specs.Prelude.{◌≡◌, ◌⊎◌, ℕ, ◌-◌, ◌^◌, ◌<◌, min, List, [], ◌++◌, length, Option, Result, Ok, Err}
use Rattle.aig_parts.specs.declared.ternary.Tern.{Tern}
use Rattle.aig_parts.specs.declared.raw.Raw.{Raw}
use Rattle.aig_bytes.specs.Bytes.{before, after, IsAtEnd, IsBeginning}
use Rattle.aig_base.specs.Value.{start_of}
use Rattle.aig_sim.specs.declared.stimulus.fault.StimFault.{StimFault}
use Rattle.aig_sim.specs.declared.stimulus.fault.StimFault.TheVariants as fault
use Rattle.aig_sim.specs.Dump.{AreFrames, closing}
use Rattle.aig_sim.specs.DumpHeader.{header}
use Rattle.aig_sim.specs.Simulated.{Streams, NoneFailed, OneReadFailed, OneWriteFailed, BeginsWithRows, ReadsFault}
use Rattle.aig_sim.specs.StimulusText.{SpellsRows, HoldsRows}

-- A write failed after these rows: a prefix of header and frames was written; or a prefix of the whole dump, where the
-- text was read to its end. Before the header's end nothing was read.
pub record DumpBreaksOff (width : ℕ) (left : Option (List ℕ)) (text : List ℕ) (rows : List (List Tern))
    (header frames done : List ℕ) : Type 0 where
  pub rows_are : BeginsWithRows width text rows
  pub beginning : IsBeginning done (header ++ frames) ⊎ (SpellsRows width text rows × IsAtEnd left
      × IsBeginning done (header ++ (frames ++ closing (length rows))))
  pub header_first : length done < length header → text ≡ []

-- How a dump ends that has read this text: its rows have the frames, and `done` was written.
-- All went well: the text spells the rows, header, frames and end were written, and the answer is the number of rows,
-- where the greatest number of 64 bits stands for any greater. A fault: the frames of the good rows, without the end. A
-- failing read: those of all rows that were read whole. A failing write: a prefix. No memory: nothing was read or
-- written.
abbrev pub EndsDump : ℕ → Streams → Streams → List ℕ → List (List Tern) → List ℕ → List ℕ → List ℕ → Result ℕ StimFault
    → Type 0
EndsDump width old new text rows header frames done (Ok n) =
    SpellsRows width text rows × IsAtEnd new.left × (done ≡ header ++ (frames ++ closing (length rows)))
    × (n ≡ min (length rows) (2 ^ 64 - 1)) × NoneFailed old new
EndsDump width old new text rows header frames done (Err fault.Io) =
    (HoldsRows width text rows × (done ≡ header ++ frames) × OneReadFailed old new)
    ⊎ (DumpBreaksOff width new.left text rows header frames done × OneWriteFailed old new)
EndsDump width old new text rows header frames done (Err fault.Memory) =
    (text ≡ []) × (rows ≡ []) × (done ≡ []) × NoneFailed old new
EndsDump width old new text rows header frames done (Err fault) =
    ReadsFault width new text rows fault × (done ≡ header ++ frames) × NoneFailed old new

-- what was read and written by the dump of a run from the start by resets
pub record Dumps (raw : Raw) (old new : Streams) (written written' : Option (List ℕ))
    (result : Result ℕ StimFault) : Type 0 where
  pub text : List ℕ
  pub rows : List (List Tern)
  pub frames : List ℕ
  pub done : List ℕ
  pub read : old.left ≡ before text new.left
  pub frames_are : AreFrames raw (start_of raw) rows (length rows) frames
  pub wrote : written' ≡ after written done
  pub ended : EndsDump (length raw.inputs) old new text rows (header raw) frames done result
