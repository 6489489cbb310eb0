-- What a line does to a session, what is answered, and which files are written or refused (our own choice).
-- Example: after `no: ` all is as before.
use Rattle.std.specs.Prelude.{◌≡◌, ◌≢◌, ◌⊎◌, ◌+◌, ◌-◌, ◌*◌, ◌≤◌, ℕ, nat_eq, max, min, if◌then◌else◌, Bool, true, false, IsTrue, List}
use Rattle.std.specs.Prelude.{[], ◌∷◌, ◌++◌, length, map, codes, decimal, Option, None, Some, slice_get}
use Rattle.std.specs.List.{starts_with}
use Rattle.std.specs.Str.{bytes_eq}
use Rattle.aig_parts.specs.declared.raw.Raw.{Raw}
use Rattle.aig_parts.specs.declared.symbols.Kind.TheVariants.{Bad}
use Rattle.aig_parts.specs.declared.ternary.Tern.{Tern}
use Rattle.aig_base.specs.Value.{start_of}
use Rattle.aig_bench.specs.BenchState.{CircuitAndRows}
use Rattle.aig_names.specs.Names.{words}
use Rattle.aig_signals.specs.Lookup.{Means, alone}
use Rattle.aig_signals.specs.Names.{first_name, position_name}
use Rattle.aig_why.specs.Why.{run_of}
use Rattle.aig_sim.specs.Reached.{IsFirstReached}
use Rattle.aig_prompt.specs.Table.{TableRow, IsTable}
use Rattle.aig_prompt.specs.Words.{spaced_byte}
use Rattle.aig_shell.specs.Defined.{IsLiteralText, IsRewiredText}
use Rattle.aig_shell.specs.Edits.{AreFrames, Does}
use Rattle.aig_shell.specs.Explained.{Explains, IsFrameOrLast}
use Rattle.aig_shell.specs.Files.{KeptText, Call, refused, calls_of, no_start_text, saved, IsWitnessed, IsWave}
use Rattle.aig_shell.specs.Reasons.{AreConstraints, AreStarts, broken_text, no_property_text, start_text}
use Rattle.aig_shell.specs.Request as request
use Rattle.aig_shell.specs.Request.{Request, show, why_first, why, set, start, add, gate, rewire, append, out, check}
use Rattle.aig_shell.specs.Request.{diff, save, witness, wave, list_names, help, quit, request_words, IsRequest}
use Rattle.aig_shell.specs.Request.{IsNoRequest}
use Rattle.aig_shell.specs.Standing.{IsStanding, standing_text}
use Rattle.aig_shell.specs.State.{SessionState, circuit_of}
use Rattle.aig_shell.specs.Tables.{IsShown, IsDifference}
use Rattle.aig_shell.specs.declared.answers.check.Broken.{Broken}
use Rattle.aig_shell.specs.declared.answers.check.Standing.{Standing}

-- ---- frames that are shown where none are named

-- the last 64 of so many
abbrev pub ShowsFrames : Option (List ℕ) → ℕ → ℕ → ℕ → Type 0
ShowsFrames None count first last = (last + 1 ≡ count) × (first ≡ count - 64)
ShowsFrames (Some word) count first last = AreFrames word count first last

-- what is said above a table that begins with this frame: that frames before it are left out, where none are named
abbrev pub left_out : Option (List ℕ) → ℕ → List ℕ
left_out None first =
    if nat_eq first 0 then []
    else codes "frames 0 to " ++ (decimal (first - 1) ++ codes " are left out; @A-B names frames\n")
left_out (Some word) first = []

-- So many frames in a row from the first: those that are named; without a name all of 64 at most, and 64 of more. Before
-- these nothing differs, and something does at the first of them, unless they are the last.
abbrev pub DiffersFrames : Option (List ℕ) → CircuitAndRows → CircuitAndRows → ℕ → ℕ → ℕ → Type 0
DiffersFrames None now was count first n =
    (n ≡ min count 64) × (first ≤ count - 64) × IsDifference now was 0 first []
    × ((first ≡ count - 64) ⊎ (IsDifference now was first 1 [] → ⊥))
DiffersFrames (Some word) now was count first n = (last : ℕ) × AreFrames word count first last × (n ≡ last + 1 - first)

-- what is said above a table of so many frames from the first: which of all they are, where none are named and some are
-- left out
abbrev pub some_shown : Option (List ℕ) → ℕ → ℕ → ℕ → List ℕ
some_shown None count first n =
    if nat_eq n count then []
    else
    codes "frames "
    ++ (decimal first
    ++ (codes " to "
    ++ (decimal (first + n - 1) ++ (codes " of 0 to " ++ (decimal (count - 1) ++ codes "; @A-B names frames\n")))))
some_shown (Some word) count first n = []

-- the text of rows that differ: a table and what is said above it; or that there are none
abbrev pub ShowsDifference : List ℕ → ℕ → ℕ → List TableRow → List ℕ → Type 0
ShowsDifference note first n rows text =
    ((rows ≡ []) × (text ≡ codes "no difference\n"))
    ⊎ ((rows ≢ []) × (table : List ℕ) × IsTable first n rows table × (text ≡ note ++ table))

-- where no frames are named, no difference in those that are shown means none at all
abbrev pub NoneElsewhere : Option (List ℕ) → SessionState → ℕ → List TableRow → Type 0
NoneElsewhere None s count rows = rows ≡ [] → IsDifference s.pair s.first 0 count []
NoneElsewhere (Some word) s count rows = Unit {0}

-- ---- answers

-- the properties from k on, each with what is said of it
unfoldable pub AreStandings : Raw → CircuitAndRows → ℕ → List ℕ → List Standing → Type 0
AreStandings raw p k [] [] = Unit {0}
AreStandings raw p k (l ∷ literals) (standing ∷ more) =
    IsStanding raw p k l standing × AreStandings raw p (k + 1) literals more
AreStandings raw p k _ _ = ⊥

-- `b0` and the first name, where the property has one
abbrev pub property_name : Raw → ℕ → List ℕ
property_name raw k =
    if bytes_eq (first_name raw Bad k) (position_name Bad k) then position_name Bad k
    else position_name Bad k ++ 32 ∷ first_name raw Bad k

-- whether a property is the condition of an assertion, `if:NAME`
abbrev pub is_condition : Raw → ℕ → Bool
is_condition raw k = starts_with nat_eq (first_name raw Bad k) (codes "if:")

-- the line of a condition if those are asked for, and of any other property if the others are
abbrev pub line_if : Bool → Bool → List ℕ → List ℕ
line_if true true line = line
line_if false false line = line
line_if _ _ line = []

abbrev pub standing_line : Raw → ℕ → Standing → List ℕ
standing_line raw k standing = property_name raw k ++ (codes ": " ++ (standing_text standing ++ 10 ∷ []))

-- the lines of the conditions, or of the others, from property k on
unfoldable pub standings_text : Raw → Bool → ℕ → List Standing → List ℕ
standings_text raw conditions k [] = []
standings_text raw conditions k (standing ∷ more) =
    line_if conditions (is_condition raw k) (standing_line raw k standing) ++ standings_text raw conditions (k + 1) more

-- why the run is none of the circuit: a constraint that is not 1, and a start that a reset does not allow
abbrev pub reasons_text : Raw → Option Broken → Option (ℕ × Tern) → List ℕ
reasons_text raw broken wrong = no_property_text raw.bad ++ (broken_text raw broken ++ start_text raw wrong)

-- a line for each property, the conditions last, or one that there is none; after them come the reasons
abbrev pub IsChecked : SessionState → List ℕ → Type 0
IsChecked s text =
    (standings : List Standing) × (broken : Option Broken) × (wrong : Option (ℕ × Tern))
    × AreStandings (circuit_of s) s.pair 0 s.pair.circuit.bad standings × AreConstraints s.pair broken
    × AreStarts (circuit_of s) (start_of s.pair.circuit) wrong
    × (text ≡ standings_text s.pair.circuit false 0 standings
    ++ (standings_text s.pair.circuit true 0 standings ++ reasons_text s.pair.circuit broken wrong))

-- ---- what a line does

-- nothing, but that a `quit` before it does not count
abbrev pub calm : SessionState → SessionState
calm s = record s { has_warned = false }

-- an edit of the run, and one of the circuit
abbrev pub EditsRun : SessionState → Request → SessionState → Type 0
EditsRun s r after = (q : CircuitAndRows) × Does s.pair r q × (after ≡ record s { pair = q; has_warned = false })

abbrev pub EditsCircuit : SessionState → Request → SessionState → Type 0
EditsCircuit s r after =
    (q : CircuitAndRows) × Does s.pair r q
    × (after ≡ record s { pair = q; has_edited_circuit = true; has_warned = false })

-- the run starts as the resets of the file say
abbrev pub StartsByReset : SessionState → Type 0
StartsByReset s = start_of s.pair.circuit ≡ start_of (circuit_of s)

-- the circuit is written, and with its rows the run, if it starts by the resets; else the answer says that it is not
abbrev pub AnswersSave : SessionState → Option (List ℕ) → List ℕ → SessionState → Type 0
AnswersSave s None text after = (text ≡ []) × (after ≡ record s { has_edited_circuit = false; has_warned = false })
AnswersSave s (Some stimulus) text after =
    (StartsByReset s → (text ≡ [])
    × (after ≡ record s { kept = run_of s.pair; has_edited_circuit = false; has_warned = false }))
    × ((StartsByReset s → ⊥) → (text ≡ no_start_text stimulus)
    × (after ≡ record s { has_edited_circuit = false; has_warned = false }))

-- What a request answers, which files it writes at once, and what it leaves. Only tested are the texts after `names` and
-- `help`.
abbrev pub Answers : SessionState → Request → List ℕ → List KeptText → SessionState → Type 0
Answers s (show names frames) text texts after =
    (first : ℕ) × (last : ℕ) × (rows : List TableRow) × (table : List ℕ)
    × ShowsFrames frames (length s.pair.rows) first last × IsShown s.pair first (last + 1 - first) names rows
    × IsTable first (last + 1 - first) rows table × (text ≡ left_out frames first ++ table) × (texts ≡ [])
    × (after ≡ calm s)
Answers s why_first text texts after =
    (t : ℕ) × (k : ℕ) × (l : ℕ) × IsFirstReached (circuit_of s) (start_of s.pair.circuit) s.pair.rows s.property t k
    × (slice_get s.pair.circuit.bad k ≡ Some l)
    × Explains (circuit_of s) (run_of s.pair) (first_name s.pair.circuit Bad k) (alone l) t text × (texts ≡ [])
    × (after ≡ calm s)
Answers s (why name frame) text texts after =
    (t : ℕ) × (literals : List ℕ) × IsFrameOrLast frame (length s.pair.rows) t × Means s.pair.circuit name literals
    × Explains (circuit_of s) (run_of s.pair) name literals t text × (texts ≡ []) × (after ≡ calm s)
Answers s (set frames name value) text texts after =
    EditsRun s (set frames name value) after × (text ≡ []) × (texts ≡ [])
Answers s (start name value) text texts after = EditsRun s (start name value) after × (text ≡ []) × (texts ≡ [])
Answers s (add count) text texts after = EditsRun s (add count) after × (text ≡ []) × (texts ≡ [])
Answers s (request.drop count) text texts after = EditsRun s (request.drop count) after × (text ≡ []) × (texts ≡ [])
Answers s (gate name) text texts after =
    (literal : ℕ) × Means s.pair.circuit name (alone literal) × IsLiteralText s.pair.circuit s.latches name literal text
    × (texts ≡ []) × (after ≡ calm s)
Answers s (rewire name side0 side1) text texts after =
    EditsCircuit s (rewire name side0 side1) after × IsRewiredText s.pair.circuit name side0 side1 text × (texts ≡ [])
Answers s (append side0 side1) text texts after =
    EditsCircuit s (append side0 side1) after × (text ≡ decimal (2 * (s.pair.circuit.max_var + 1)) ++ 10 ∷ [])
    × (texts ≡ [])
Answers s (out name literal) text texts after = EditsCircuit s (out name literal) after × (text ≡ []) × (texts ≡ [])
Answers s check text texts after = IsChecked s text × (texts ≡ []) × (after ≡ calm s)
Answers s (diff frames) text texts after =
    let count = max (length s.pair.rows) (length s.first.rows) in
    (first : ℕ) × (n : ℕ) × (rows : List TableRow) × DiffersFrames frames s.pair s.first count first n
    × IsDifference s.pair s.first first n rows × NoneElsewhere frames s count rows
    × ShowsDifference (some_shown frames count first n) first n rows text × (texts ≡ []) × (after ≡ calm s)
Answers s (save circuit stimulus) text texts after =
    (texts ≡ saved s circuit stimulus) × AnswersSave s stimulus text after
Answers s (witness file name) text texts after =
    IsWitnessed s file name text texts × (after ≡ record s { kept = run_of s.pair; has_warned = false })
Answers s (wave file) text texts after = IsWave s file texts × (text ≡ []) × (after ≡ calm s)
Answers s (list_names part) text texts after = (texts ≡ []) × (after ≡ calm s)
Answers s (help command) text texts after = (texts ≡ []) × (after ≡ calm s)
Answers s quit text texts after = ⊥

-- an answer that begins with `no: `; what follows is only tested
abbrev pub IsRefusal : List ℕ → Type 0
IsRefusal text = (what : List ℕ) × (text ≡ codes "no: " ++ what)

-- a request has no answer in this state
abbrev pub HasNoAnswer : SessionState → Request → Type 0
HasNoAnswer s (help command) = Unit {0}
HasNoAnswer s (list_names part) = Unit {0}
HasNoAnswer s r = (text : List ℕ) (texts : List KeptText) (after : SessionState) → Answers s r text texts after → ⊥

-- a request has no answer, or the files that were to get the texts of its answer are refused
abbrev pub IsRefused : SessionState → Request → List Call → Type 0
IsRefused s r calls =
    (HasNoAnswer s r × (calls ≡ []))
    ⊎ ((text : List ℕ) × (texts : List KeptText) × (after : SessionState) × Answers s r text texts after × (texts ≢ [])
    × (calls ≡ refused texts ∷ []))

-- something would be lost at the end
abbrev pub IsUnsaved : SessionState → Type 0
IsUnsaved s = IsTrue s.has_edited_circuit ⊎ (run_of s.pair ≢ s.kept)

-- whether a `quit` ends the session: where nothing would be lost, or after another that said so
abbrev pub EndsAt : SessionState → Bool → List ℕ → SessionState → Type 0
EndsAt s true text after = (IsTrue s.has_warned ⊎ (IsUnsaved s → ⊥)) × (text ≡ []) × (after ≡ calm s)
EndsAt s false text after =
    IsUnsaved s × (s.has_warned ≡ false) × ((what : List ℕ) × (text ≡ codes "unsaved: " ++ what))
    × (after ≡ record s { has_warned = true })

-- what the words of a line do; whether it ends the session
abbrev pub AnswersRequest : SessionState → Request → List ℕ → List Call → Bool → SessionState → Type 0
AnswersRequest s quit text calls ends after = EndsAt s ends text after × (calls ≡ [])
AnswersRequest s r text calls ends after =
    (ends ≡ false) × (((texts : List KeptText) × Answers s r text texts after × (calls ≡ calls_of texts))
    ⊎ (IsRefused s r calls × IsRefusal text × (after ≡ calm s)))

-- the words of a line; a tab and a CR are as a space
abbrev pub line_words : List ℕ → List (List ℕ)
line_words line = words (map spaced_byte line)

-- no words, or a comment
abbrev pub IsSilent : List (List ℕ) → Type 0
IsSilent ws = (ws ≡ []) ⊎ ((rest : List ℕ) × (more : List (List ℕ)) × (ws ≡ (35 ∷ rest) ∷ more))

-- no file is written: there is no call, or one that is refused
abbrev pub WritesNone : List Call → Type 0
WritesNone calls = (calls ≡ []) ⊎ ((texts : List KeptText) × (calls ≡ refused texts ∷ []))

-- memory ran out: the line did nothing; or files were refused, and there was no memory to say so
abbrev pub LacksMemory : SessionState → List ℕ → List Call → Bool → SessionState → Type 0
LacksMemory s text calls ends after =
    (text ≡ codes "no: out of memory\n") × WritesNone calls × (ends ≡ false) × ((after ≡ s) ⊎ (after ≡ calm s))

-- what the words of a line answer, the calls for files, whether the line ends the session, and what it leaves
abbrev pub WordsAnswer : SessionState → List (List ℕ) → List ℕ → List Call → Bool → SessionState → Type 0
WordsAnswer s ws text calls ends after =
    (IsSilent ws × (text ≡ []) × (calls ≡ []) × (ends ≡ false) × (after ≡ s))
    ⊎ ((r : Request) × IsRequest r × (ws ≡ request_words r) × AnswersRequest s r text calls ends after)
    ⊎ (IsNoRequest ws × IsRefusal text × (calls ≡ []) × (ends ≡ false) × (after ≡ calm s))
    ⊎ LacksMemory s text calls ends after

-- what a line answers, the calls for files, whether the line ends the session, and what it leaves
abbrev pub LineAnswer : SessionState → List ℕ → List ℕ → List Call → Bool → SessionState → Type 0
LineAnswer s line text calls ends after = WordsAnswer s (line_words line) text calls ends after
