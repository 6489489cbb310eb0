-- What a reader of DIMACS finds in a text (DIMACS, the format of formulas in conjunctive normal form). The format has
-- comment lines at the front; that they are passed over anywhere in the text is our own choice.
-- Example: in `p cnf 3 2/1 -3 0 2/3 -1 0/`: 3 variables, the count 2, the clauses `0 5` and `2 4 1`.
use Rattle.std.specs.Prelude.{ℕ, ◌+◌, ◌*◌, ◌-◌, Bool, not, ◌&&◌, ◌||◌, ◌==◌, nat_lt, nat_le, if◌then◌else◌, List, []}
use Rattle.std.specs.Prelude.{◌∷◌, ◌++◌, length, slice_index, codes, Option, Some, None}
use Rattle.std.specs.List.{filter, flat_map, slice_split}
use Rattle.std.specs.Option.{option_and_then, option_map}
use Rattle.std.specs.Str.{all_ascii_digits, bytes_eq}
use Rattle.std.specs.Str.Parse.{digits_value}

-- what is found: how many variables and how many clauses the problem line states, and the clauses
abbrev pub Found : Type 0
Found = ℕ × ℕ × List (List ℕ)

-- the lines of a text that do not begin with `c`
abbrev pub lines : List ℕ → List (List ℕ)
lines text = filter (λ line. not (slice_index line 0 == 99)) (slice_split (λ b. b == 10) text)

-- a blank, a tab or the end of a line
abbrev pub is_space : ℕ → Bool
is_space b = b == 32 || (b == 9 || (b == 10 || b == 13))

-- the words of a line: its pieces between spaces
abbrev pub words : List ℕ → List (List ℕ)
words line = filter (λ word. nat_lt 0 (length word)) (slice_split is_space line)

-- the number of a word of digits
unfoldable pub number : List ℕ → Option ℕ
number word = if all_ascii_digits word then Some (digits_value 10 word) else None

-- the literal of a variable from 1 to `variables`, negated where the sign is 1
unfoldable pub signed : ℕ → ℕ → ℕ → Option ℕ
signed variables sign v = if nat_lt 0 v && nat_le v variables then Some (2 * (v - 1) + sign) else None

-- the literal of a word: the number of its variable, after a minus where it is negated
unfoldable pub literal_of : ℕ → List ℕ → Option ℕ
literal_of variables [] = None
literal_of variables (b ∷ rest) =
    if b == 45 then option_and_then (signed variables 1) (number rest)
    else option_and_then (signed variables 0) (number (b ∷ rest))

-- the clauses of words, where one has begun with these literals: `0` ends a clause
unfoldable pub clauses_of : ℕ → List (List ℕ) → List ℕ → Option (List (List ℕ))
clauses_of variables [] [] = Some []
clauses_of variables [] (l ∷ begun) = None
clauses_of variables (word ∷ more) begun =
    if bytes_eq word (codes "0") then option_map (λ clauses. begun ∷ clauses) (clauses_of variables more [])
    else option_and_then (λ l. clauses_of variables more (begun ++ l ∷ [])) (literal_of variables word)

-- the two counts in the words of the problem line, `p cnf V C`
unfoldable pub counts_of : List (List ℕ) → Option (ℕ × ℕ)
counts_of (p ∷ cnf ∷ v ∷ c ∷ []) =
    if bytes_eq p (codes "p") && bytes_eq cnf (codes "cnf")
    then option_and_then (λ variables. option_map (λ count. (variables, count)) (number c)) (number v) else None
counts_of line = None

-- what is found in lines: the first is the problem line, and the words of the others are clauses
unfoldable pub found_in : List (List ℕ) → Option Found
found_in [] = None
found_in (line ∷ more) =
    option_and_then (λ n. option_map (λ clauses. (n.0, n.1, clauses)) (clauses_of n.0 (flat_map words more) []))
    (counts_of (words line))

-- what a reader finds in a text, if it is one of DIMACS
abbrev pub read_formula : List ℕ → Option Found
read_formula text = found_in (lines text)
