-- Reading the symbols and the comment.
use Rattle.std.specs.Prelude.{ℕ, zero, suc, Bool, true, false, List, [], ◌∷◌, ◌++◌, length, Option, Some, None}
use Rattle.std.specs.Prelude.{Ok, Err, nat_le, ◌==◌, ◌&&◌, ◌||◌, if◌then◌else◌}
use Rattle.std.specs.List.{list_any}
use Rattle.std.specs.Map.{keys_of}
use Rattle.aig_parts.specs.declared.symbols.Kind.{Kind}
use Rattle.aig_parts.specs.declared.symbols.Kind.TheVariants.{Input, Latch, Output, Bad, Constraint, Justice, Fairness}
use Rattle.aig_format.specs.declared.reader.header.Counts.{Counts}
use Rattle.aig_format.specs.declared.reader.symbol.Next.{Next}
use Rattle.aig_format.specs.declared.reader.symbol.Next.TheVariants.{End, Comment, Symbol}
use Rattle.aig_format.specs.declared.reader.symbol.Names.{Names}
use Rattle.aig_format.specs.Header.{space, line_end}
use Rattle.aig_parts.specs.Letters.{letter}
use Rattle.aig_format.specs.Spelling.{Entry}
use Rattle.aig_format.specs.Spells.{greatest}
use Rattle.aig_format.specs.state.Reading.{text, Read, ◌>>=◌, is_digit, byte_at, number_at}

-- ---- letters

-- the section of a letter, `c` aside
abbrev pub kind_of : ℕ → Option Kind
kind_of x =
    if x == 105 then Some Input
    else (if x == 108 then Some Latch
    else (if x == 111 then Some Output
    else (if x == 98 then Some Bad
    else (if x == 106 then Some Justice
    else (if x == 102 then Some Fairness
    else None)))))

-- after a `c`: the end of its line begins the comment, a digit the position of a constraint
unfoldable pub after_c_at : List ℕ → Read Next
after_c_at [] = Err text
after_c_at (x ∷ xs) =
    if x == line_end then Ok (Comment, xs) else (if is_digit x then Ok (Symbol Constraint, x ∷ xs) else Err text)

abbrev pub letter_then : Option Kind → List ℕ → Read Next
letter_then None rest = Err text
letter_then (Some kind) rest = Ok (Symbol kind, rest)

unfoldable pub letter_at : List ℕ → Read Next
letter_at [] = Ok (End, [])
letter_at (x ∷ xs) = if x == 99 then after_c_at xs else letter_then (kind_of x) xs

-- ---- symbols

-- the bytes before the end of the line, which is taken
unfoldable pub line_at : List ℕ → Read (List ℕ)
line_at [] = Err text
line_at (x ∷ xs) =
    if x == line_end then Ok ([], xs) else (do
      others ← line_at xs
      Ok (x ∷ others.0, others.1))

abbrev pub is_empty : List ℕ → Bool
is_empty [] = true
is_empty (x ∷ xs) = false

unfoldable pub name_at : List ℕ → Read (List ℕ)
name_at bytes = do
  name ← line_at bytes
  if is_empty name.0 then Err text else Ok name

abbrev pub same_key : Kind × ℕ → Kind × ℕ → Bool
same_key a b = letter a.0 == letter b.0 && a.1 == b.1

abbrev pub is_named : Kind → ℕ → List Entry → Bool
is_named kind position named = list_any (same_key (kind, position)) (keys_of named)

abbrev pub count_of : Counts → Kind → ℕ
count_of c Input = c.inputs
count_of c Latch = c.latches
count_of c Output = c.outputs
count_of c Bad = c.bad
count_of c Constraint = c.constraints
count_of c Justice = c.justice
count_of c Fairness = c.fairness

-- a position of the section, which is not named yet
unfoldable pub position_at : Counts → List Entry → Kind → List ℕ → Read ℕ
position_at c named kind bytes = do
  position ← number_at greatest bytes
  if nat_le (count_of c kind) position.0 || is_named kind position.0 named then Err text else Ok position

-- the name of an entry, which joins these
abbrev pub entry_at : List Entry → Kind → ℕ → List ℕ → Read (List Entry)
entry_at named kind position bytes = do
  name ← name_at bytes
  Ok (named ++ ((kind, position), name.0) ∷ [], name.1)

-- what follows the letter: these entries are named already, and one more is
unfoldable pub symbol_at : Counts → List Entry → Kind → List ℕ → Read (List Entry)
symbol_at c named kind bytes = do
  position ← position_at c named kind bytes
  blank ← byte_at space position.1
  entry_at named kind position.0 blank.1

abbrev pub Named : Type 0
Named = List Entry × Bool

-- the symbols go on as more says, or end; then the answer says whether a comment follows
unfoldable pub symbols_then : Counts → List Entry → (List Entry → List ℕ → Read Named) → Next → List ℕ → Read Named
symbols_then c named more End bytes = Ok ((named, false), bytes)
symbols_then c named more Comment bytes = Ok ((named, true), bytes)
symbols_then c named more (Symbol kind) bytes = do
  entries ← symbol_at c named kind bytes
  more entries.0 entries.1

-- at most so many more symbols
unfoldable pub symbols_at : Counts → ℕ → List Entry → List ℕ → Read Named
symbols_at c zero named bytes = Ok ((named, false), bytes)
symbols_at c (suc n) named bytes = do
  next ← letter_at bytes
  symbols_then c named (symbols_at c n) next.0 next.1

-- all that follows the gates
unfoldable pub names_at : Counts → List ℕ → Read Names
names_at c bytes = do
  symbols ← symbols_at c (length bytes) [] bytes
  if symbols.0.1 then Ok (record { symbols = symbols.0.0; comment = Some symbols.1 }, [])
      else Ok (record { symbols = symbols.0.0; comment = None }, symbols.1)

-- a symbol line begins
abbrev pub BeginsSymbol : Next → Type 0
BeginsSymbol End = ⊥
BeginsSymbol Comment = ⊥
BeginsSymbol (Symbol kind) = Unit {0}
