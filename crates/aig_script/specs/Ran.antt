-- What running a script read, wrote and changed.
-- Example: a read that fails after `v 0 8/v 0`: `1/` is written.
use Rattle.std.specs.Prelude.{◌≡◌, ◌⊎◌, ℕ, ◌+◌, List, [], ◌∷◌, ◌++◌, Ok, Err}
use Rattle.aig_bytes.specs.Bytes.{before, IsAtEnd, Writes}
use Rattle.aig_bench.specs.BenchState.{CircuitAndRows}
use Rattle.aig_bytes.specs.Flow.{Flow, until}
use Rattle.aig_script.specs.Lines.{Line, rest_from, whole_lines, lines_of}
use Rattle.aig_script.specs.Replies.{Replies, LineReply}
use Rattle.aig_script.specs.ScriptLine.{ScriptLine, KeepsScriptLine}

-- all of the lines were answered
pub record Answered {X : Type 0} (out : Flow X) (lines : List Line) (old new : CircuitAndRows) : Type 0 where
  pub replies : List ℕ
  pub ran : Replies old lines replies new
  pub writes : Writes {T = Unit {0}} {E = Unit {0}} out.bytes out.failures out.old out.new replies (Ok tt)

-- a write failed: the lines before one were answered, and of its reply a beginning was written
pub record StoppedAt {X : Type 0} (out : Flow X) (lines : List Line) (old new : CircuitAndRows) : Type 0 where
  pub first : List Line
  pub last : Line
  pub more : List Line
  pub split : lines ≡ first ++ (last ∷ more)
  pub place : X
  pub state : CircuitAndRows
  pub before_it : Answered (until out place) first old state
  pub reply : List ℕ
  pub stepped : LineReply state last reply new
  pub writes : Writes {T = Unit {0}} {E = Unit {0}} out.bytes out.failures place out.new reply (Err tt)

-- all of the lines were answered, and then a flush failed
pub record Unflushed {X : Type 0} (out : Flow X) (lines : List Line) (old new : CircuitAndRows) : Type 0 where
  pub place : X
  pub answered : Answered (until out place) lines old new
  pub kept : out.bytes out.new ≡ out.bytes place
  pub count : out.failures out.new ≡ out.failures place + 1

-- a write failed in one of the replies, or a flush after all of them
abbrev pub FailsToWrite : {X : Type 0} → Flow X → List Line → CircuitAndRows → CircuitAndRows → Type 0
FailsToWrite out lines old new = StoppedAt out lines old new ⊎ Unflushed out lines old new

-- For proofs: the script so far was read, and all lines that it ends were answered; this is kept of the last line.
pub record Reading {Y X : Type 0} (reader : Flow Y) (out : Flow X) (line : ScriptLine) (old new : CircuitAndRows) : Type
    0 where
  pub script : List ℕ
  pub read : reader.bytes reader.old ≡ before script (reader.bytes reader.new)
  pub no_failure : reader.failures reader.new ≡ reader.failures reader.old
  pub rest : KeepsScriptLine (rest_from [] script) line
  pub answered : Answered out (whole_lines script) old new

-- the script was read to its end, and all of its lines were answered
pub record Ran {Y X : Type 0} (reader : Flow Y) (out : Flow X) (old new : CircuitAndRows) : Type 0 where
  pub script : List ℕ
  pub read : reader.bytes reader.old ≡ before script (reader.bytes reader.new)
  pub at_end : IsAtEnd (reader.bytes reader.new)
  pub no_failure : reader.failures reader.new ≡ reader.failures reader.old
  pub answered : Answered out (lines_of script) old new

-- A failing read: all lines that were read with their LF are answered whole. A failing write: the lines before one are
-- answered whole, and of its reply a beginning is written. A failing flush: all lines are answered whole.
pub record Failing {Y X : Type 0} (reader : Flow Y) (out : Flow X) (old new : CircuitAndRows) : Type 0 where
  pub script : List ℕ
  pub read : reader.bytes reader.old ≡ before script (reader.bytes reader.new)
  pub why : ((reader.failures reader.new ≡ reader.failures reader.old + 1) × Answered out (whole_lines script) old new)
      ⊎ ((reader.failures reader.new ≡ reader.failures reader.old) × ((lines : List Line)
      × ((lines ≡ whole_lines script) ⊎ (IsAtEnd (reader.bytes reader.new) × (lines ≡ lines_of script)))
      × FailsToWrite out lines old new))
