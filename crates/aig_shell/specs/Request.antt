-- What a line asks for, as it is typed (our own choice).
-- Example: `set 9 push 0`.
use Rattle.std.specs.Prelude.{◌≢◌, ℕ, List, [], ◌∷◌, ◌++◌, codes, Option, None, Some}

-- Names, frames, values and counts are still words. An explanation has a frame only where it has a name.
pub data Request : Type 0 where
  show : (names : List (List ℕ)) (frames : Option (List ℕ)) → Request
  why_first : Request
  why : (name : List ℕ) (frame : Option (List ℕ)) → Request
  set : (frames name value : List ℕ) → Request
  start : (name value : List ℕ) → Request
  add : (count : Option (List ℕ)) → Request
  drop : (count : Option (List ℕ)) → Request
  gate : (name : List ℕ) → Request
  rewire : (name side0 side1 : List ℕ) → Request
  append : (side0 side1 : List ℕ) → Request
  out : (name literal : List ℕ) → Request
  check : Request
  diff : (frames : Option (List ℕ)) → Request
  save : (circuit : List ℕ) (stimulus : Option (List ℕ)) → Request
  witness : (file : List ℕ) (name : Option (List ℕ)) → Request
  wave : (file : List ℕ) → Request
  list_names : (text : Option (List ℕ)) → Request
  help : (command : Option (List ℕ)) → Request
  quit : Request

-- a word that may be left out
abbrev pub maybe : Option (List ℕ) → List (List ℕ)
maybe None = []
maybe (Some word) = word ∷ []

-- frames as a table's line has them, `@A-B`
abbrev pub at_frames : Option (List ℕ) → List (List ℕ)
at_frames None = []
at_frames (Some word) = (64 ∷ word) ∷ []

-- the words of the line
abbrev pub request_words : Request → List (List ℕ)
request_words (show names frames) = codes "show" ∷ (names ++ at_frames frames)
request_words why_first = codes "why" ∷ []
request_words (why name frame) = codes "why" ∷ name ∷ maybe frame
request_words (set frames name value) = codes "set" ∷ frames ∷ name ∷ value ∷ []
request_words (start name value) = codes "start" ∷ name ∷ value ∷ []
request_words (add count) = codes "add" ∷ maybe count
request_words (drop count) = codes "drop" ∷ maybe count
request_words (gate name) = codes "gate" ∷ name ∷ []
request_words (rewire name side0 side1) = codes "gate" ∷ name ∷ side0 ∷ side1 ∷ []
request_words (append side0 side1) = codes "new" ∷ side0 ∷ side1 ∷ []
request_words (out name literal) = codes "out" ∷ name ∷ literal ∷ []
request_words check = codes "check" ∷ []
request_words (diff frames) = codes "diff" ∷ at_frames frames
request_words (save circuit stimulus) = codes "save" ∷ circuit ∷ maybe stimulus
request_words (witness file name) = codes "witness" ∷ file ∷ maybe name
request_words (wave file) = codes "wave" ∷ file ∷ []
request_words (list_names text) = codes "names" ∷ maybe text
request_words (help command) = codes "help" ∷ maybe command
request_words quit = codes "quit" ∷ []

-- a table has a name at least, and of its words only the last can be frames
abbrev pub IsRequest : Request → Type 0
IsRequest (show names None) = (names ≢ []) × ((some : List (List ℕ)) (word : List ℕ) → names ≢ some ++ (64 ∷ word) ∷ [])
IsRequest (show names (Some frames)) = names ≢ []
IsRequest _ = Unit {0}

-- the words ask for nothing
abbrev pub IsNoRequest : List (List ℕ) → Type 0
IsNoRequest words = (r : Request) → IsRequest r → words ≢ request_words r
