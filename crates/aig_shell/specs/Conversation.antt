-- A whole session: lines that are answered one by one, up to one that ends it or to the end of the input (our own
-- choice).
-- Example: the second of two lines `quit` ends it.
use Rattle.std.specs.Prelude.{◌≡◌, ◌≢◌, ◌⊎◌, ◌+◌, ◌*◌, ◌<◌, ℕ, if◌then◌else◌, Bool, true, false, List, [], ◌∷◌, ◌++◌}
use Rattle.std.specs.Prelude.{length, All, codes, Option, Result, Ok, Err}
use Rattle.aig_bytes.specs.Bytes.{before, after, IsAtEnd, IsBeginning}
use Rattle.aig_bytes.specs.Flow.{Flow}
use Rattle.aig_parts.specs.Limits.{cell_limit}
use Rattle.aig_parts.specs.declared.fault.Fault.{Fault}
use Rattle.aig_parts.specs.declared.raw.Raw.{Raw}
use Rattle.aig_parts.specs.declared.ternary.Tern.{Tern}
use Rattle.aig_bench.specs.BenchState.{CircuitAndRows}
use Rattle.aig_bench.specs.declared.bench.fault.BenchFault.TheVariants as benches
use Rattle.aig_command.specs.Command.{IsFileOf, RefusesCircuit, Got}
use Rattle.aig_command.specs.Given.{IsGiven, ReadRun, RefusesGiven}
use Rattle.aig_command.specs.declared.given.Given.{Given}
use Rattle.aig_command.specs.declared.run_fault.RunFault.{RunFault}
use Rattle.aig_command.specs.declared.run_fault.RunFault.TheVariants as run_faults
use Rattle.aig_shell.specs.declared.talk.conversation.Conversation.{Conversation}
use Rattle.aig_shell.specs.declared.talk.conversation.AfterLine.{AfterLine}
use Rattle.aig_shell.specs.declared.talk.conversation.AfterLine.TheVariants as next
use Rattle.aig_shell.specs.declared.session.Session.{Session}
use Rattle.aig_shell.specs.declared.refusal.Refusal.{Refusal}
use Rattle.aig_shell.specs.declared.refusal.Refusal.TheVariants as refusals
use Rattle.aig_shell.specs.Answers.{AnswersRequest, EndsAt, IsRefusal, LineAnswer, WordsAnswer, IsUnsaved, calm}
use Rattle.aig_shell.specs.Ends.{ComesAfter, with_calls}
use Rattle.aig_shell.specs.Files.{Call}
use Rattle.aig_shell.specs.Request.{Request}
use Rattle.aig_shell.specs.Session.{BeginsAt, IsIn, first_state}
use Rattle.aig_shell.specs.State.{SessionState}

-- no LF stands in the bytes
abbrev pub IsPiece : List ℕ → Type 0
IsPiece bytes = All (λ b. b ≢ 10) bytes

-- what a person sees before a line, and what comes before the first prompt
abbrev pub prompt : Bool → List ℕ
prompt true = codes "aig> "
prompt false = []

-- From a state on: whole lines, each with the LF that ends it; what is answered to them; the calls for files; and the
-- state that is left. None of the lines ends the session.
pub data Answered (person : Bool) (s : SessionState) : List ℕ → List ℕ → List Call → SessionState → Type 0 where
  none : Answered person s [] [] [] s
  one_more : (mid after : SessionState) (input text line answer : List ℕ) (calls more : List Call)
      → Answered person s input text calls mid → IsPiece line → LineAnswer mid line answer more false after
      → Answered person s (input ++ (line ++ 10 ∷ [])) (text ++ (answer ++ prompt person)) (calls ++ more) after

-- The same for a whole input, and whether a line ends the session: then no more is answered. The last line may lack its
-- LF.
pub data Converses (person : Bool) (s : SessionState) : List ℕ → List ℕ → List Call → Bool → SessionState
    → Type 0 where
  at_end : (after : SessionState) (input text : List ℕ) (calls : List Call)
      → Answered person s input text calls after → Converses person s input text calls false after
  ended : (mid after : SessionState) (input text line answer rest : List ℕ) (calls more : List Call)
      → Answered person s input text calls mid → IsPiece line → LineAnswer mid line answer more true after
      → Converses person s (input ++ (line ++ 10 ∷ rest)) (text ++ answer) (calls ++ more) true after
  last : (mid after : SessionState) (input text line answer : List ℕ) (calls more : List Call) (ends : Bool)
      → Answered person s input text calls mid → IsPiece line → line ≢ [] → LineAnswer mid line answer more ends after
      → Converses person s (input ++ line) (text ++ answer) (calls ++ more) ends after

-- a conversation is in a state
pub record IsAt (c : Conversation) (s : SessionState) : Type 0 where
  pub state : IsIn c.session s
  pub warned : s.has_warned ≡ c.has_warned

-- the answer when memory runs out
abbrev pub no_memory : List ℕ
no_memory = codes "no: out of memory\n"

-- whether a line ends the session
abbrev pub ends_after : AfterLine → Bool
ends_after next.GoesOn = false
ends_after next.Ends = true

-- what a line makes of a conversation: its answer, which is this text, and the calls for files
abbrev pub AnswersLine : Conversation → List ℕ → List ℕ → Option (List Call) → Option (List Call) → Bool → Conversation
    → Type 0
AnswersLine old line text old_calls new_calls ends new =
    (s : SessionState) → IsAt old s
    → (calls : List Call) × (after : SessionState) × LineAnswer s line text calls ends after × IsAt new after
    × (new_calls ≡ with_calls old_calls calls)

-- What `quit` makes of a conversation that is calm, after a `quit` or not: the session is as before; without memory
-- nothing is said.
abbrev pub EndsQuit : {E : Type 0} → Conversation → Bool → Result AfterLine E → Conversation → Type 0
EndsQuit old warned (Ok next) new =
    (s : SessionState) → IsIn old.session s → s.has_warned ≡ warned
    → (after : SessionState) × EndsAt s (ends_after next) new.text.items after × IsAt new after
EndsQuit old warned (Err _) new = (s : SessionState) → IsIn old.session s → IsAt new (calm s)

-- What a request makes of a conversation that is calm, after a `quit` or not: it is answered; or it is refused, and
-- calm: then any refusal answers it, or memory ran out.
abbrev pub EndsRequest : Conversation → Bool → Request → Result AfterLine Refusal → Option (List Call)
    → Option (List Call) → Conversation → Type 0
EndsRequest old warned r (Ok next) old_calls new_calls new =
    (s : SessionState) → IsIn old.session s → s.has_warned ≡ warned
    → (calls : List Call) × (after : SessionState) × AnswersRequest s r new.text.items calls (ends_after next) after
    × IsAt new after × (new_calls ≡ with_calls old_calls calls)
EndsRequest old warned r (Err refusal) old_calls new_calls new =
    ((s : SessionState) → IsIn old.session s → IsAt new (calm s))
    × (calls : List Call) × (new_calls ≡ with_calls old_calls calls) × ComesAfter refusal calls
    × (refusal ≢ refusals.Memory → (s : SessionState) → IsIn old.session s → (text : List ℕ) → IsRefusal text
    → AnswersRequest s r text calls false (calm s))

-- What the words of a line make of a conversation: they are answered; or they are refused: then any refusal answers
-- them, or memory ran out, and nothing is done.
abbrev pub EndsWords : Conversation → List (List ℕ) → Result AfterLine Refusal → Option (List Call) → Option (List Call)
    → Conversation → Type 0
EndsWords old ws (Ok next) old_calls new_calls new =
    (s : SessionState) → IsAt old s
    → (calls : List Call) × (after : SessionState) × WordsAnswer s ws new.text.items calls (ends_after next) after
    × IsAt new after × (new_calls ≡ with_calls old_calls calls)
EndsWords old ws (Err refusal) old_calls new_calls new =
    ((s : SessionState) → IsAt old s → IsAt new s ⊎ IsAt new (calm s))
    × (calls : List Call) × (new_calls ≡ with_calls old_calls calls) × ComesAfter refusal calls
    × (refusal ≢ refusals.Memory → (s : SessionState) → IsAt old s → (text : List ℕ) → IsRefusal text
    → WordsAnswer s ws text calls false (calm s) × IsAt new (calm s))

-- what a person sees before the first line; any words, and the prompt
abbrev pub IsGreeting : Bool → List ℕ → Type 0
IsGreeting false text = text ≡ []
IsGreeting true text = (words : List ℕ) × (text ≡ words ++ prompt true)

-- at the end of the input: a newline for a person, and what is unsaved
abbrev pub IsFarewell : Bool → Bool → SessionState → List ℕ → Type 0
IsFarewell person true s text = text ≡ []
IsFarewell person false s text =
    (what : List ℕ) × ((IsUnsaved s → ⊥) → what ≡ []) × (text ≡ (if person then 10 ∷ [] else []) ++ what)

-- all that a session writes for an input
pub record Talk (person : Bool) (s : SessionState) (input text : List ℕ) (calls : List Call) (quits : Bool)
    : Type 0 where
  pub new : SessionState
  pub greeting : List ℕ
  pub answers : List ℕ
  pub farewell : List ℕ
  pub greets : IsGreeting person greeting
  pub converses : Converses person s input answers calls quits new
  pub ends : IsFarewell person quits new farewell
  pub text_is : text ≡ greeting ++ (answers ++ farewell)

-- what passes: the input, the answers, and the calls for files
pub record Passes (Y X Z : Type 0) : Type 0 where
  pub reader : Flow Y
  pub out : Flow X
  pub calls : Z → Option (List Call)
  pub files : Z
  pub files_after : Z

-- the whole input is read, or a line ends the session, and all is written
pub record Ended {Y X Z : Type 0} (passes : Passes Y X Z) (person : Bool) (s : SessionState) : Type 0 where
  pub input : List ℕ
  pub text : List ℕ
  pub calls : List Call
  pub quits : Bool
  pub talk : Talk person s input text calls quits
  pub read : passes.reader.bytes passes.reader.old ≡ before input (passes.reader.bytes passes.reader.new)
  pub whole : quits ≡ false → IsAtEnd (passes.reader.bytes passes.reader.new)
  pub got : Got passes.out text
  pub called : passes.calls passes.files_after ≡ with_calls (passes.calls passes.files) calls

-- A read or a write fails. Of what was read the answers to some input that begins as this one are written, or the first
-- bytes of them, and the calls for files are those of the lines that were answered.
pub record BreaksDown {Y X Z : Type 0} (passes : Passes Y X Z) (person : Bool) (s : SessionState) : Type 0 where
  pub input : List ℕ
  pub text : List ℕ
  pub calls : List Call
  pub quits : Bool
  pub talk : Talk person s input text calls quits
  pub rest : List ℕ
  pub read : passes.reader.bytes passes.reader.old ≡ before (input ++ rest) (passes.reader.bytes passes.reader.new)
  pub done : List ℕ
  pub beginning : IsBeginning done text
  pub got : passes.out.bytes passes.out.new ≡ after (passes.out.bytes passes.out.old) done
  pub failed : ((passes.reader.failures passes.reader.old < passes.reader.failures passes.reader.new)
      × (passes.out.failures passes.out.new ≡ passes.out.failures passes.out.old))
      ⊎ (passes.out.failures passes.out.old < passes.out.failures passes.out.new)
  pub called : passes.calls passes.files_after ≡ with_calls (passes.calls passes.files) calls

-- nothing is read, written or kept
abbrev pub NothingPasses : {Y X Z : Type 0} → Passes Y X Z → Type 0
NothingPasses passes = (passes.reader.new ≡ passes.reader.old) × Got passes.out [] × (passes.files_after ≡ passes.files)

-- the rows are too many for the circuit, or memory ran out
abbrev pub RefusesRows : Raw → List (List Tern) → RunFault → Type 0
RefusesRows raw rows (run_faults.Bench benches.Limit) = cell_limit < (raw.max_var + 1) * length rows
RefusesRows raw rows (run_faults.Bench benches.Memory) = Unit {0}
RefusesRows raw rows run_faults.Memory = Unit {0}
RefusesRows raw rows _ = ⊥

-- the run that is given is refused with this fault
abbrev pub RefusesGivenRun : Raw → Given (List ℕ) → RunFault → Type 0
RefusesGivenRun raw given fault =
    RefusesGiven raw given fault ⊎ ((run : ReadRun) × IsGiven raw given run × RefusesRows raw run.rows fault)

-- the circuit is refused with this fault, or its run
abbrev pub RefusesFiles : List ℕ → Given (List ℕ) → RunFault → Type 0
RefusesFiles file given fault =
    ((why : Fault) × (fault ≡ run_faults.Circuit why) × RefusesCircuit file why)
    ⊎ ((raw : Raw) × IsFileOf file raw × RefusesGivenRun raw given fault)

-- a write or a flush fails, and nothing passes
pub record OnlyFails {Y X Z : Type 0} (passes : Passes Y X Z) : Type 0 where
  pub reader : passes.reader.new ≡ passes.reader.old
  pub got : passes.out.bytes passes.out.new ≡ passes.out.bytes passes.out.old
  pub failed : passes.out.failures passes.out.old < passes.out.failures passes.out.new
  pub kept : passes.files_after ≡ passes.files

-- a session that a run of a circuit begins
abbrev pub BeginsSession : Raw → ReadRun → Session → Type 0
BeginsSession raw run session =
    BeginsAt raw run.start run.rows session.run.bench.pair
    × IsIn session (first_state raw run.property session.run.bench.pair)

-- the session of a circuit's file and the run that is given
abbrev pub OpensSession : List ℕ → Given (List ℕ) → Session → Type 0
OpensSession file given session =
    (raw : Raw) × IsFileOf file raw
    × ((run : ReadRun) × IsGiven raw given run × BeginsSession raw run session)

-- a session over a circuit that begins with the run that is given
abbrev pub HoldsSession : {Y X Z : Type 0} → Passes Y X Z → Bool → Raw → Given (List ℕ)
    → ((Passes Y X Z) → Bool → SessionState → Type 0) → Type 0
HoldsSession passes person raw given Ends =
    (run : ReadRun) × (pair : CircuitAndRows) × IsGiven raw given run × BeginsAt raw run.start run.rows pair
    × Ends passes person (first_state raw run.property pair)

-- How `shell` ends: all that is read is answered; or the circuit or its run is refused, and nothing passes; or a read
-- or a write fails, also a flush after a refusal.
abbrev pub EndsShell : {Y X Z : Type 0} → Passes Y X Z → Bool → List ℕ → Given (List ℕ) → Result (Unit {0}) RunFault
    → Type 0
EndsShell passes person file given (Ok done) =
    (raw : Raw) × IsFileOf file raw × HoldsSession passes person raw given Ended
EndsShell passes person file given (Err fault) =
    (RefusesFiles file given fault × NothingPasses passes)
    ⊎ ((fault ≡ run_faults.Shell)
    × (((raw : Raw) × IsFileOf file raw × HoldsSession passes person raw given BreaksDown) ⊎ OnlyFails passes))
