-- Names as the program holds them.
-- Example: the names left of `a b` after its first are `b`.
use Rattle.std.specs.Prelude.{◌≡◌, ℕ, ◌+◌, List, [], ◌∷◌, length, map, sum, decimal}
use Rattle.aig_names.specs.declared.names.Name.{Name}
use Rattle.aig_names.specs.declared.names.Name.TheVariants as name
use Rattle.aig_names.specs.declared.names.Names.{Names}
use Rattle.aig_names.specs.declared.names.Names.TheVariants as names
use Rattle.aig_names.specs.declared.signals.NamedSignal.{NamedSignal}
use Rattle.aig_names.specs.declared.signals.Entry.{Entry}
use Rattle.aig_parts.specs.Letters.{letter}
use Rattle.aig_names.specs.Names.{words, as_name}
use Rattle.aig_names.specs.Vectors.{next_name}

-- a name's bytes
abbrev pub name_text : Name → List ℕ
name_text (name.Word word) = as_name word.now
name_text (name.Position kind p) = letter kind ∷ decimal p

-- names that are not declared yet
abbrev pub names_left : Names → List (List ℕ)
names_left (names.Words text) = map as_name (words text.now)
names_left (names.Position kind p) = (letter kind ∷ decimal p) ∷ []

-- how many bytes the text has; a position stands for one
abbrev pub names_size : Names → ℕ
names_size (names.Words text) = length text.now
names_size (names.Position kind p) = 1

-- a signal's number and its name
abbrev pub named : NamedSignal → ℕ × List ℕ
named signal = (signal.number, name_text signal.name)

-- a signal's number and the names that are not declared yet
abbrev pub entry_names : Entry → ℕ × List (List ℕ)
entry_names entry = (entry.number, names_left entry.names)

-- how much is left of entries
abbrev pub size_left : List Entry → ℕ
size_left entries = sum (map (λ entry. names_size entry.names + 1) entries)

-- a column and the columns after it; without a name there is none
abbrev pub column_then : List (ℕ × List ℕ) → List (List (ℕ × List ℕ)) → List (List (ℕ × List ℕ))
column_then [] columns = []
column_then (x ∷ column) columns = (x ∷ column) ∷ columns

-- the name after a run's last one, where there is a run; the last one stands first
abbrev pub next_of : List (ℕ × List ℕ) → List ℕ → Type 0
next_of [] next = Unit {0}
next_of (last ∷ run) next = next ≡ next_name last.1
