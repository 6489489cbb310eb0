-- What a reader of headers finds in a value change dump: names in their scopes, each with a code (IEEE 1364, `$scope`,
-- `$upscope` and `$var`). Where the standard is silent, reading line by line, words between blanks, is our own choice.
-- Example: the line `$var wire 1 ! en $end` in the scope `inputs` gives the path `inputs`, `en` with the code `!`.
use Rattle.std.specs.Prelude.{◌≡◌, ℕ, ◌+◌, ◌-◌, ◌<◌, if◌then◌else◌, List, [], ◌∷◌, ◌++◌, length, map, take}
use Rattle.std.specs.Prelude.{slice_index_or, codes, Contains}
use Rattle.std.specs.Str.{bytes_eq}
use Rattle.aig_parts.specs.declared.symbols.Kind.{Kind}
use Rattle.aig_parts.specs.declared.symbols.Kind.TheVariants.{Input, Latch, Output, Bad, Constraint, Justice, Fairness}
use Rattle.aig_parts.specs.SymbolPlaces.{Key}
use Rattle.aig_names.specs.declared.header.SignalCounts.{SignalCounts}
use Rattle.aig_names.specs.Names.{cut_at, names_of, identifier_code}
use Rattle.aig_names.specs.Paths.{path_of}

-- the word at a place of a line
abbrev pub line_word_at : List (List ℕ) → ℕ → List ℕ
line_word_at line k = slice_index_or line k []

-- the names that lines declare, with their codes, where these scopes are open, the innermost last
unfoldable pub found : List (List ℕ) → List (List (List ℕ)) → List (List (List ℕ) × List ℕ)
found opened [] = []
found opened (line ∷ more) =
    if bytes_eq (line_word_at line 0) (codes "$scope") then found (opened ++ line_word_at line 2 ∷ []) more
    else (if bytes_eq (line_word_at line 0) (codes "$upscope") then found (take (length opened - 1) opened) more
    else (if bytes_eq (line_word_at line 0) (codes "$var")
    then (opened ++ line_word_at line 4 ∷ [], line_word_at line 3) ∷ found opened more else found opened more))

-- the names that a text declares
abbrev pub read_names : List ℕ → List (List (List ℕ) × List ℕ)
read_names text = found [] (map (cut_at 32) (cut_at 10 text))

-- how many entries of a section a dump shows
abbrev pub shown_entries : SignalCounts → Kind → ℕ
shown_entries counts Input = counts.inputs
shown_entries counts Latch = counts.latches
shown_entries counts Output = counts.outputs
shown_entries counts Bad = counts.bad
shown_entries counts Constraint = counts.constraints
shown_entries counts Justice = 0
shown_entries counts Fairness = 0

-- the number of the first of them
abbrev pub first_signal : SignalCounts → Kind → ℕ
first_signal counts Latch = counts.inputs
first_signal counts Output = counts.inputs + counts.latches
first_signal counts Bad = counts.inputs + counts.latches + counts.outputs
first_signal counts Constraint = counts.inputs + counts.latches + counts.outputs + counts.bad
first_signal counts other = 0

-- the scope of a section
abbrev pub section_scope_name : Kind → List ℕ
section_scope_name Input = codes "inputs"
section_scope_name Latch = codes "latches"
section_scope_name Output = codes "outputs"
section_scope_name Bad = codes "bad"
section_scope_name Constraint = codes "constraints"
section_scope_name other = []

-- a path is the scope of a section and a name of an entry there, and a code is that of the entry
pub record NamesSignal (symbols : List (Key × List ℕ)) (counts : SignalCounts) (path : List (List ℕ))
    (code : List ℕ) : Type 0 where
  pub kind : Kind
  pub position : ℕ
  pub name : List ℕ
  pub here : position < shown_entries counts kind
  pub name_is : Contains (names_of symbols kind position) name
  pub path_is : path ≡ section_scope_name kind ∷ path_of name
  pub code_is : code ≡ identifier_code (first_signal counts kind + position)
