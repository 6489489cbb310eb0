-- What proofs alone need: how far a session is, while its lines are read. No contract of an exported function reaches
-- it.
use Rattle.std.specs.Prelude.{◌≡◌, ◌≢◌, ◌⊎◌, ◌<◌, ℕ, Bool, true, false, if◌then◌else◌, List, [], ◌∷◌, ◌++◌, Option}
use Rattle.std.specs.Prelude.{Result, Ok, Err, IfOk}
use Rattle.aig_bytes.specs.Bytes.{after, IsBeginning, Writes}
use Rattle.aig_shell.specs.declared.talk.conversation.Conversation.{Conversation}
use Rattle.aig_shell.specs.declared.talk.conversation.AfterLine.{AfterLine}
use Rattle.aig_shell.specs.declared.talk.conversation.AfterLine.TheVariants as next
use Rattle.aig_shell.specs.declared.talk.LineBuffer.{LineBuffer}
use Rattle.aig_shell.specs.declared.talk.Talker.{Talker}
use Rattle.aig_shell.specs.Conversation.{IsPiece, Answered, Converses, IsAt, AnswersLine, IsGreeting, Talk, ends_after}
use Rattle.aig_shell.specs.Ends.{with_calls}
use Rattle.aig_shell.specs.Files.{Call}
use Rattle.aig_shell.specs.State.{SessionState}

-- what is written at a moment, how many calls for it failed, and the calls for files
pub record Moment : Type 0 where
  pub bytes : Option (List ℕ)
  pub failures : ℕ
  pub calls : Option (List Call)

abbrev pub moment : {X Z : Type 0} → (X → Option (List ℕ)) → (X → ℕ) → (Z → Option (List Call)) → X → Z → Moment
moment written failures calls out files = record { bytes = written out; failures = failures out; calls = calls files }

-- the line has these bytes so far, all of them unless it is cut
abbrev pub HoldsLine : List ℕ → LineBuffer → Type 0
HoldsLine text line = ((line.is_cut ≡ false) × (line.bytes.items ≡ text)) ⊎ ((line.is_cut ≡ true) × (text ≢ []))

-- the answer to a line is written, or a write fails
pub record Replies {E : Type 0} (old : Conversation) (line : List ℕ) (before now : Moment) (result : Result AfterLine E)
    (new : Conversation) : Type 0 where
  pub text : List ℕ
  pub next : AfterLine
  pub same : IfOk result (λ n. n ≡ next)
  pub answers : AnswersLine old line text before.calls now.calls (ends_after next) new
  pub writes : Writes (λ (m : Moment). m.bytes) (λ (m : Moment). m.failures) before now text result

-- from a moment up to now: the greeting and the answers to the whole lines of the input are written, and this stands
-- after them
pub record Stands (start now : Moment) (person : Bool) (s : SessionState) (input : List ℕ) (t : Talker) : Type 0 where
  pub mid : SessionState
  pub greeting : List ℕ
  pub lines : List ℕ
  pub rest : List ℕ
  pub text : List ℕ
  pub calls : List Call
  pub greets : IsGreeting person greeting
  pub answered : Answered person s lines text calls mid
  pub input_is : input ≡ lines ++ rest
  pub piece : IsPiece rest
  pub holds : HoldsLine rest t.line
  pub at : IsAt t.conversation mid
  pub prompts : t.has_prompt ≡ person
  pub got : now.bytes ≡ after start.bytes (greeting ++ text)
  pub count : now.failures ≡ start.failures
  pub called : now.calls ≡ with_calls start.calls calls

-- all is written for the input
pub record Done (start now : Moment) (person : Bool) (s : SessionState) (input : List ℕ) (quits : Bool) : Type 0 where
  pub text : List ℕ
  pub calls : List Call
  pub talk : Talk person s input text calls quits
  pub got : now.bytes ≡ after start.bytes text
  pub count : now.failures ≡ start.failures
  pub called : now.calls ≡ with_calls start.calls calls

-- the first bytes are written for a part of the input
pub record Part (start now : Moment) (person : Bool) (s : SessionState) (input : List ℕ) : Type 0 where
  pub part : List ℕ
  pub rest : List ℕ
  pub input_is : input ≡ part ++ rest
  pub quits : Bool
  pub text : List ℕ
  pub calls : List Call
  pub talk : Talk person s part text calls quits
  pub done : List ℕ
  pub beginning : IsBeginning done text
  pub got : now.bytes ≡ after start.bytes done
  pub called : now.calls ≡ with_calls start.calls calls

-- a newline, where a person sees it
abbrev pub newline : Bool → List ℕ
newline person = if person then 10 ∷ [] else []

-- the whole input is answered, and no line ended the session
pub record Finished (start now : Moment) (person : Bool) (s : SessionState) (input : List ℕ) (t : Talker) : Type 0 where
  pub mid : SessionState
  pub greeting : List ℕ
  pub answers : List ℕ
  pub calls : List Call
  pub greets : IsGreeting person greeting
  pub converses : Converses person s input answers calls false mid
  pub at : IsAt t.conversation mid
  pub prompts : t.has_prompt ≡ person
  pub got : now.bytes ≡ after start.bytes (greeting ++ answers)
  pub count : now.failures ≡ start.failures
  pub called : now.calls ≡ with_calls start.calls calls

-- the last line is answered, if there is one: the input is finished, or ends the session, or a write fails
abbrev pub Finishes : {E : Type 0} → Moment → Moment → Bool → SessionState → List ℕ → Result AfterLine E → Talker
    → Type 0
Finishes start now person s input (Ok next.GoesOn) t = Finished start now person s input t
Finishes start now person s input (Ok next.Ends) t = Done start now person s input true
Finishes start now person s input (Err fault) t = Part start now person s input × (start.failures < now.failures)

-- more is read: it goes on, a line ends the session, or a write fails
abbrev pub Feeds : {E : Type 0} → Moment → Moment → Bool → SessionState → List ℕ → Result AfterLine E → Talker → Type 0
Feeds start now person s input (Ok next.GoesOn) t = Stands start now person s input t
Feeds start now person s input (Ok next.Ends) t = Done start now person s input true
Feeds start now person s input (Err fault) t = Part start now person s input × (start.failures < now.failures)

-- nothing is left to read: all is written, or a write fails
abbrev pub EndsInput : {A E : Type 0} → Moment → Moment → Bool → SessionState → List ℕ → Result A E → Type 0
EndsInput start now person s input (Ok done) = (quits : Bool) × Done start now person s input quits
EndsInput start now person s input (Err fault) = Part start now person s input × (start.failures < now.failures)
