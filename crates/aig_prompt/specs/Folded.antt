-- Lines that are folded at their spaces (our own choice).
-- Example: `a b` in two lines has the words `a` and `b`.
use Rattle.std.specs.Prelude.{◌≡◌, ℕ, ◌==◌, ◌||◌, nat_lt, Bool, true, List, [], ◌∷◌, ◌++◌, length, All}
use Rattle.std.specs.List.{filter, slice_split}

-- a space, or an LF
abbrev pub is_space : ℕ → Bool
is_space b = b == 32 || b == 10

-- the words of a text: its pieces between spaces and LFs that have a byte
abbrev pub text_words : List ℕ → List (List ℕ)
text_words text = filter (λ word. nat_lt 0 (length word)) (slice_split is_space text)

abbrev pub IsSpaces : List ℕ → Type 0
IsSpaces bytes = All (λ b. is_space b ≡ true) bytes

-- the new text is the old one and spaces; one at least, unless a word is the first
abbrev pub AddsSpaces : Bool → List ℕ → List ℕ → Type 0
AddsSpaces first old new = (spaces : List ℕ) × IsSpaces spaces × (spaces ≡ [] → first ≡ true) × (new ≡ old ++ spaces)

-- the same, and the word
abbrev pub AddsWord : Bool → List ℕ → List ℕ → List ℕ → Type 0
AddsWord first word old new =
    (spaces : List ℕ) × IsSpaces spaces × (spaces ≡ [] → first ≡ true) × (new ≡ old ++ (spaces ++ word))

-- the new text is the old one, and lines with the words of this one
abbrev pub Folds : List ℕ → List ℕ → List ℕ → Type 0
Folds line old new = (folded : List ℕ) × (text_words folded ≡ text_words line) × (new ≡ old ++ (folded ++ 10 ∷ []))
