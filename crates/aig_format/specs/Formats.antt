-- In which format bytes spell parts.
-- Example: `aag 0 0 0 0 0/` is in the text format.
use Rattle.std.specs.Prelude.{ℕ, List, Result, Ok, Err}
use Rattle.aig_parts.specs.declared.fault.Fault.{Fault}
use Rattle.aig_parts.specs.declared.raw.Raw.{Raw}
use Rattle.aig_format.specs.declared.reader.header.Format.{Format}
use Rattle.aig_format.specs.Spells.{HasSpelling, IsTextIn}

-- the bytes are a file of the parts in this format
abbrev pub IsInFormat : Format → List ℕ → Raw → Type 0
IsInFormat format bytes raw = HasSpelling raw × IsTextIn format bytes raw

-- an answer without the format in which the circuit was read
abbrev pub without_format : Result (Format × Raw) Fault → Result Raw Fault
without_format (Ok read) = Ok read.1
without_format (Err fault) = Err fault
