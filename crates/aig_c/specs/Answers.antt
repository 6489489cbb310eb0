-- What the arguments of a call for C ask for, and what its status says.
-- Examples: `step, 4, 1` is the query of the induction step of four frames and property 1; `NotBad` is not; `toaig` of
-- `aag 0 0 0 0 1/`; `refute` for 1 frame writes `unreachable within 1/`, more than 9 bytes.
use Rattle.std.specs.Prelude.{◌≡◌, ◌<◌, ◌≤◌, ℕ, List, Bool, true, false, Result, Ok, Err, length, take}
use Rattle.aig_bytes.specs.Bytes.{IsBeginning}
use Rattle.aig_cnf.specs.Query.{step, within}
use Rattle.aig_cnf.specs.declared.query.Query.{Query}
use Rattle.aig_format.specs.declared.reader.header.Format.{Format}
use Rattle.aig_format.specs.declared.reader.header.Format.TheVariants.{Ascii, Binary}
use Rattle.aig_command.specs.Command.{Text}
use Rattle.aig_command.specs.Status.{status_of}
use Rattle.aig_command.specs.declared.run_fault.RunFault.{RunFault}
use Rattle.aig_sim.specs.declared.witness.verdict.Verdict.{Verdict}
use Rattle.aig_sim.specs.declared.witness.verdict.Verdict.TheVariants.{Confirmed}

-- the format that is asked for
abbrev pub format_of : Bool → Format
format_of true = Binary
format_of false = Ascii

-- the query about k frames and property p: the step of an induction, or whether a run reaches p within k frames
abbrev pub query_of : Bool → ℕ → ℕ → Query
query_of true k p = step k p
query_of false k p = within k p

abbrev pub is_confirmed : Verdict → Bool
is_confirmed Confirmed = true
is_confirmed _ = false

-- a command with the meaning `Means` rejects an input, and not because memory ran out
abbrev pub Refuses : {T : Type 0} → (Result T RunFault → List ℕ → Type 0) → Type 0
Refuses Means = (fault : RunFault) × (status_of fault ≡ 1) × ((bytes : List ℕ) × Means (Err fault) bytes)

-- a command with the meaning `Means` goes well, and writes more bytes than a room has
abbrev pub Exceeds : {T : Type 0} → ℕ → (Result T RunFault → List ℕ → Type 0) → Type 0
Exceeds {T = T} room Means = (value : T) × (bytes : List ℕ) × Means (Ok value) bytes × (room < length bytes)

-- A command that reads a text meanwhile writes more bytes than a room has, for a beginning of this text.
abbrev pub ExceedsReading : {T : Type 0} → ℕ → List ℕ → (Text → Result T RunFault → List ℕ → Type 0) → Type 0
ExceedsReading {T = T} room script Means =
    (text : Text) × IsBeginning text.bytes script
    × ((answer : Result T RunFault) × (bytes : List ℕ) × Means text answer bytes × (room < length bytes))

-- What a call that writes to a room of its caller says of this room and of its length, by the status that it returns.
-- Example: after status 2 both are as they were.
pub record Fills (Done : List ℕ → Type 0) (Refused NoRoom : Type 0) (status : ℕ) (old new : List ℕ)
    (old_length new_length : ℕ) : Type 0 where
  pub done : status ≡ 0 → Done (take new_length new)
  pub refused : status ≡ 1 → Refused
  pub no_room : status ≡ 2 → NoRoom
  pub inside : status ≤ 1 → new_length ≤ length old
  pub kept : 1 < status → (new ≡ old) × (new_length ≡ old_length)
  pub statuses : status ≤ 3

-- what a call for a command with the meaning `Means` returns
abbrev pub Returns : (Result (Unit {0}) RunFault → List ℕ → Type 0) → ℕ → List ℕ → List ℕ → ℕ → ℕ → Type 0
Returns Means status old new = Fills (Means (Ok tt)) (Refuses Means) (Exceeds (length old) Means) status old new

-- what a call for a command with a verdict returns, if it says whether this is `confirmed`
abbrev pub ReturnsVerdict : (Result Verdict RunFault → List ℕ → Type 0) → Bool → ℕ → List ℕ → List ℕ → ℕ → ℕ → Type 0
ReturnsVerdict Means confirmed status old new =
    Fills (λ text. (verdict : Verdict) × (confirmed ≡ is_confirmed verdict) × Means (Ok verdict) text) (Refuses Means)
    (Exceeds (length old) Means) status old new
