-- How the functions of a session answer a request (our own choice).
use Rattle.std.specs.Prelude.{◌≡◌, ◌≢◌, ◌⊎◌, ℕ, List, [], ◌∷◌, ◌++◌, Option, None, Some, Result, Ok, Err}
use Rattle.aig_shell.specs.Answers.{Answers, HasNoAnswer, IsRefused, calm}
use Rattle.aig_shell.specs.Files.{KeptText, Call, kept, refused}
use Rattle.aig_shell.specs.Request.{Request, why_first, why}
use Rattle.aig_shell.specs.Session.{IsIn}
use Rattle.aig_shell.specs.State.{SessionState}
use Rattle.aig_shell.specs.declared.refusal.Refusal.{Refusal}
use Rattle.aig_shell.specs.declared.refusal.Refusal.TheVariants as refusals
use Rattle.aig_shell.specs.declared.session.Session.{Session}

-- `why` with a name and a frame, or without a name
abbrev pub asks_why : Option (List ℕ) → Option (List ℕ) → Request
asks_why None frame = why_first
asks_why (Some name) frame = why name frame

-- A request that only asks: it is answered by this text; or it is refused: then it has no answer, or memory ran out.
abbrev pub EndsQuery : {A : Type 0} → Session → Request → Result A Refusal → List ℕ → Type 0
EndsQuery session r (Ok _) text = (s : SessionState) → IsIn session s → Answers s r text [] (calm s)
EndsQuery session r (Err refusal) text =
    refusal ≢ refusals.Memory → (s : SessionState) → IsIn session s → HasNoAnswer s r

-- the calls for files, after more of them
abbrev pub with_calls : Option (List Call) → List Call → Option (List Call)
with_calls None more = None
with_calls (Some old) more = Some (old ++ more)

-- the calls before a refusal: none; or one that is refused, and then not because memory ran out
abbrev pub ComesAfter : Refusal → List Call → Type 0
ComesAfter refusal calls =
    (calls ≡ []) ⊎ ((refusal ≢ refusals.Memory) × (texts : List KeptText) × (calls ≡ refused texts ∷ []))

-- A request that writes files: it is answered by this text, and the files get their texts in one call; or nothing is
-- written, and the session is as before: then it has no answer, or the files are refused, or memory ran out.
abbrev pub EndsFiles : {A : Type 0} → Session → Request → Result A Refusal → List ℕ → Option (List Call)
    → Option (List Call) → Session → Type 0
EndsFiles old r (Ok _) text old_calls new_calls new =
    (s : SessionState) → IsIn old s
    → (texts : List KeptText) × (after : SessionState) × Answers s r text texts after × IsIn new after × (texts ≢ [])
    × (new_calls ≡ with_calls old_calls (kept texts ∷ []))
EndsFiles old r (Err refusal) text old_calls new_calls new =
    (new ≡ old) × (calls : List Call) × (new_calls ≡ with_calls old_calls calls) × ComesAfter refusal calls
    × (refusal ≢ refusals.Memory → (s : SessionState) → IsIn old s → IsRefused s r calls)

-- A request that edits: it is answered by this text, and the session is in the state that it leaves; or it is refused,
-- and the session is in the state before: then it has no answer, or memory ran out.
abbrev pub EndsChange : {A : Type 0} → Session → Request → Result A Refusal → List ℕ → Session → Type 0
EndsChange old r (Ok _) text new =
    (s : SessionState) → IsIn old s → (after : SessionState) × Answers s r text [] after × IsIn new after
EndsChange old r (Err refusal) text new =
    ((s : SessionState) → IsIn old s → IsIn new s)
    × (refusal ≢ refusals.Memory → (s : SessionState) → IsIn old s → HasNoAnswer s r)
