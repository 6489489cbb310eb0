-- Identifier codes and names in a value change dump (IEEE 1364, value change dump). Which names a signal has is our own
-- choice, after the symbols that yosys writes.
-- Example: the code of signal 94 is `!"`; `u1.q[0] x[0]` gives two names; a latch 3 without a symbol is `l3`.
use Rattle.std.specs.Prelude.{ℕ, zero, suc, ◌+◌, ◌%◌, ◌/◌, ◌==◌, ◌&&◌, ◌||◌, nat_lt, if◌then◌else◌, List, [], ◌∷◌}
use Rattle.std.specs.Prelude.{length, map, decimal}
use Rattle.std.specs.List.{filter, slice_split}
use Rattle.aig_parts.specs.declared.symbols.Kind.{Kind}
use Rattle.aig_parts.specs.Letters.{letter}
use Rattle.aig_parts.specs.SymbolPlaces.{Key}

-- the digits of n in base 94, least first, so many at most; the byte of digit d is 33 + d
unfoldable pub code_digits : ℕ → ℕ → List ℕ
code_digits zero n = []
code_digits (suc most) n = (33 + n % 94) ∷ (if nat_lt n 94 then [] else code_digits most (n / 94))

-- the identifier code of signal n: all its digits, one at least; no number has more digits than n + 1
abbrev pub identifier_code : ℕ → List ℕ
identifier_code n = code_digits (suc n) n

-- the symbol of the entry at position p of a section; no bytes where it has none
unfoldable pub symbol_of : List (Key × List ℕ) → Kind → ℕ → List ℕ
symbol_of [] kind p = []
symbol_of (s ∷ symbols) kind p =
    if letter s.0.0 == letter kind && s.0.1 == p then s.1 else symbol_of symbols kind p

-- a text cut at each byte of this kind
abbrev pub cut_at : ℕ → List ℕ → List (List ℕ)
cut_at cut text = slice_split (λ b. b == cut) text

-- the words of a symbol: its pieces between blanks that have a byte
unfoldable pub words : List ℕ → List (List ℕ)
words symbol = filter (λ word. nat_lt 0 (length word)) (cut_at 32 symbol)

-- white space, control bytes and all that is no ASCII become `_`, and so do a `:`, which viewers take for a range of
-- bits, and a `$` after a dot: no name is a keyword
abbrev pub name_byte : ℕ → ℕ → ℕ
name_byte before b = if nat_lt b 33 || (nat_lt 126 b || (b == 58 || (before == 46 && b == 36))) then 95 else b

-- the bytes after this one as a name has them
unfoldable pub as_name_after : ℕ → List ℕ → List ℕ
as_name_after before [] = []
as_name_after before (b ∷ bytes) = name_byte before b ∷ as_name_after b bytes

-- a word as a name; its front counts as the front of a piece, as what is after a dot does
abbrev pub as_name : List ℕ → List ℕ
as_name word = as_name_after 46 word

-- the names by the words of a symbol; without any, the letter of the section and the position
abbrev pub names_by : Kind → ℕ → List (List ℕ) → List (List ℕ)
names_by kind p [] = (letter kind ∷ decimal p) ∷ []
names_by kind p (word ∷ more) = map as_name (word ∷ more)

-- the names of the entry at position p of a section
abbrev pub names_of : List (Key × List ℕ) → Kind → ℕ → List (List ℕ)
names_of symbols kind p = names_by kind p (words (symbol_of symbols kind p))
