-- What calls that read do to their source.
use Rattle.std.specs.Prelude.{◌≡◌, ◌<◌, ◌≤◌, ◌+◌, ◌^◌, ◌++◌, ℕ, List, Result, length, drop}
use Rattle.aig_parts.specs.declared.fault.Fault.{Fault}
use Rattle.aig_format.specs.declared.reader.header.Counts.{Counts}
use Rattle.aig_format.specs.declared.reader.source.Source.{Ghosts}
use Rattle.aig_format.specs.declared.reader.token_fault.TokenFault.{TokenFault}
use Rattle.aig_format.specs.FileReading.{Raises}
use Rattle.aig_format.specs.Spelling.{Entry}
use Rattle.aig_format.specs.state.Fits.{AreSymbols}
use Rattle.aig_format.specs.state.ReaderAnswers.{of_token, Gives}
use Rattle.aig_format.specs.state.Reading.{Read}
use Rattle.aig_format.specs.state.ReadingNames.{symbols_at}
use Rattle.aig_format.specs.state.ReadingSections.{lines_at, with_front}

-- What was answered, seen by view, and the bytes that are left are what reading gives, unless memory ran out or a read
-- failed. The source reports its bytes as before and is of the same reader; a failed read is counted; there is no more
-- to take than there was.
pub record ReadsAs {S X Y : Type 0} (source : Ghosts S) (old new : S) (view : X → Y) (result : Result X Fault)
    (read : List ℕ → Read Y) : Type 0 where
  pub bytes : source.reports old → Gives view result (source.left new) (read (source.left old))
  pub reported : source.reports old → source.reports new
  pub reader : source.reader new ≡ source.reader old
  pub failures : Raises result (source.failures old) (source.failures new)
  pub never_more : source.more new ≤ source.more old

-- the same of a token, which takes no memory
abbrev pub ReadsToken : {S X : Type 0} → Ghosts S → S → S → Result X TokenFault → (List ℕ → Read X) → Type 0
ReadsToken source old new result read = ReadsAs source old new (λ x. x) (of_token result) read

-- after calls of which none failed
pub record KeepsSource {S : Type 0} (source : Ghosts S) (old new : S) : Type 0 where
  pub reported : source.reports old → source.reports new
  pub reader : source.reader new ≡ source.reader old
  pub failures : source.failures new ≡ source.failures old
  pub never_more : source.more new ≤ source.more old

-- So many entries, of the variables from first on, are in so many bytes at the front of hand and were added to a list.
-- Whatever comes after hand, reading them and the rest after old is reading the rest after new.
pub record AddsItems {X : Type 0} (line : ℕ → List ℕ → Read X) (first taken size : ℕ) (buffered : List ℕ)
    (old new : List X)
    : Type 0 where
  pub within : size ≤ length buffered
  pub count : length new ≡ length old + taken
  pub lines : (rest : ℕ) (more : List ℕ)
      → with_front new (lines_at line rest (first + taken) (drop size buffered ++ more))
      ≡ with_front old (lines_at line (taken + rest) first (buffered ++ more))

-- So many symbols are in so many bytes at the front of hand and were added to a list. Whatever comes after hand, reading
-- them and the rest after old is reading the rest after new.
pub record AddsSymbols (c : Counts) (count size : ℕ) (buffered : List ℕ) (old new : List Entry) : Type 0 where
  pub within : size ≤ length buffered
  pub least : count ≤ size
  pub symbols : AreSymbols c old → AreSymbols c new
  pub lines : (rest : ℕ) (more : List ℕ)
      → symbols_at c (count + rest) old (buffered ++ more) ≡ symbols_at c rest new (drop size buffered ++ more)

-- a bound of numbers: no digit is over it, and ten times it and one more digit are below 2^28
pub record IsBound (bound : ℕ) : Type 0 where
  pub digit : 9 ≤ bound
  pub small : bound < 2 ^ 24
