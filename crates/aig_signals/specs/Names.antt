-- Names of a circuit's entries as people read and type them (our own choice).
-- Example: `q[0] top.q` has the first name `q[0]` and one further name.
use Rattle.std.specs.Prelude.{ℕ, ◌||◌, nat_lt, if◌then◌else◌, List, [], ◌∷◌, map, decimal, slice_index_or}
use Rattle.aig_parts.specs.declared.raw.Raw.{Raw}
use Rattle.aig_parts.specs.declared.symbols.Kind.{Kind}
use Rattle.aig_parts.specs.declared.symbols.Kind.TheVariants.{Input, Latch, Output, Bad, Constraint, Justice, Fairness}
use Rattle.aig_parts.specs.Letters.{letter}
use Rattle.aig_names.specs.Names.{symbol_of, words}

-- control bytes, blanks and all that is no ASCII become `_`
abbrev pub readable_byte : ℕ → ℕ
readable_byte b = if nat_lt b 33 || nat_lt 126 b then 95 else b

-- a word of a symbol as a terminal shows it
abbrev pub readable : List ℕ → List ℕ
readable word = map readable_byte word

-- the letter of a section and a position
abbrev pub position_name : Kind → ℕ → List ℕ
position_name kind p = letter kind ∷ decimal p

-- the words of an entry's symbol
abbrev pub entry_words : Raw → Kind → ℕ → List (List ℕ)
entry_words raw kind p = words (symbol_of raw.symbols kind p)

-- the first of these words; without any, the letter of the section and the position
abbrev pub first_of : Kind → ℕ → List (List ℕ) → List ℕ
first_of kind p [] = position_name kind p
first_of kind p (word ∷ more) = readable word

-- the words after the first
abbrev pub further_of : List (List ℕ) → List (List ℕ)
further_of [] = []
further_of (word ∷ more) = map readable more

-- the first name of an entry
unfoldable pub first_name : Raw → Kind → ℕ → List ℕ
first_name raw kind p = first_of kind p (entry_words raw kind p)

-- its further names
unfoldable pub further_names : Raw → Kind → ℕ → List (List ℕ)
further_names raw kind p = further_of (entry_words raw kind p)

-- the sections of signals, in the order of the circuit
abbrev pub sections : List Kind
sections = Input ∷ Latch ∷ Output ∷ Bad ∷ Constraint ∷ []

-- the literals of a section's entries; justice and fairness properties are no signals
abbrev pub literals_of : Raw → Kind → List ℕ
literals_of raw Input = raw.inputs
literals_of raw Latch = map (λ latch. latch.lit) raw.latches
literals_of raw Output = raw.outputs
literals_of raw Bad = raw.bad
literals_of raw Constraint = raw.constraints
literals_of raw Justice = []
literals_of raw Fairness = []

-- an entry's literal
abbrev pub literal_of : Raw → Kind → ℕ → ℕ
literal_of raw kind p = slice_index_or (literals_of raw kind) p 0
