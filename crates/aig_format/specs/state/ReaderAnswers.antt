-- What an answer of the reader's parts says about reading.
use Rattle.std.specs.Prelude.{◌≡◌, ◌≤◌, ℕ, List, Result, Ok, Err}
use Rattle.aig_parts.specs.declared.fault.Fault.{Fault}
use Rattle.aig_parts.specs.declared.fault.Fault.TheVariants as faults
use Rattle.aig_format.specs.declared.reader.token_fault.TokenFault.{TokenFault}
use Rattle.aig_format.specs.declared.reader.token_fault.TokenFault.TheVariants as tokens
use Rattle.aig_format.specs.FileReading.{Raises}
use Rattle.aig_format.specs.state.Reading.{Refusal, text, limit, Read}
use Rattle.aig_format.specs.state.ReadingFile.{FileRefusal, token, counts}

-- a token's fault as the fault of a file
abbrev pub file_fault_of : TokenFault → Fault
file_fault_of (tokens.Text at) = faults.Text at
file_fault_of tokens.Limit = faults.Limit
file_fault_of tokens.Io = faults.Io

abbrev pub of_token : {X : Type 0} → Result X TokenFault → Result X Fault
of_token (Ok x) = Ok x
of_token (Err e) = Err (file_fault_of e)

-- the fault is the refusal that reading gives, or memory ran out, or a read failed
abbrev pub Fails : {Y : Type 0} → Fault → Result Y Refusal → Type 0
Fails (faults.Text at) read = read ≡ Err text
Fails faults.Limit read = read ≡ Err limit
Fails faults.Memory read = Unit {0}
Fails faults.Io read = Unit {0}
Fails fault read = ⊥

-- What a reader answered, seen by view, and the bytes that it left are what reading gives, unless memory ran out or a
-- read failed.
abbrev pub Gives : {X Y : Type 0} → (X → Y) → Result X Fault → List ℕ → Read Y → Type 0
Gives view (Ok x) rest read = read ≡ Ok (view x, rest)
Gives view (Err e) rest read = Fails e read

-- the same of an answer that stands for all that is left
abbrev pub FileFails : {Y : Type 0} → Fault → Result Y FileRefusal → Type 0
FileFails (faults.Text at) read = read ≡ Err (token text)
FileFails faults.Limit read = read ≡ Err (token limit)
FileFails faults.Counts read = read ≡ Err counts
FileFails faults.Memory read = Unit {0}
FileFails faults.Io read = Unit {0}
FileFails fault read = ⊥

abbrev pub AnswersRead : {X Y : Type 0} → (X → Y) → Result X Fault → Result Y FileRefusal → Type 0
AnswersRead view (Ok x) read = read ≡ Ok (view x)
AnswersRead view (Err e) read = FileFails e read

-- after a call that asks a source for a byte: it reports its bytes as before and is of the same reader, a failed read is
-- counted, and there is no more to take than there was
pub record KeepsReader {S X : Type 0} (reports : S → Type 0) (reader_of failures_of more : S → ℕ) (old new : S)
    (result : Result X Fault) : Type 0 where
  pub reported : reports old → reports new
  pub reader : reader_of new ≡ reader_of old
  pub failures : Raises result (failures_of old) (failures_of new)
  pub never_more : more new ≤ more old
