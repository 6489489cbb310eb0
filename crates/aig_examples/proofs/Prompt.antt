-- The examples of the definitions of `aig_prompt`.
use Rattle.std.proofs.Common.{zero, ◌≡◌, ◌≢◌, ℕ, suc, List, [], ◌∷◌, length, refl, sym, ap, arith}
use Rattle.std.specs.Prelude.{codes, drop, replicate, All}
use Rattle.std.specs.Fmt.{digits}
use Rattle.std.proofs.lemmas.List.Elements.{All-cons, All-nil}
use Rattle.aig_parts.specs.declared.ternary.Tern.{Tern}
use Rattle.aig_parts.specs.declared.ternary.Tern.TheVariants.{Zero, One, X}
use Rattle.aig_prompt.specs.Folded.{text_words, Folds}
use Rattle.aig_prompt.specs.Shown.{escaped_byte}
use Rattle.aig_prompt.specs.Table.{block_text, blocks_text, line_text, IsTable}
use Rattle.aig_prompt.specs.Value as value
use Rattle.aig_prompt.specs.Value.{number_bits, IsDigit, Reads}
use Rattle.aig_prompt.specs.Words.{spaced_byte}

-- `a b` in two lines has the words `a` and `b`
two_lines : Folds (codes "a b") [] (codes "a\nb\n") × (text_words (codes "a\nb") ≡ codes "a" ∷ codes "b" ∷ [])
two_lines = ((codes "a\nb", refl, refl), refl)

-- ESC is `\x1b`
escape : escaped_byte 27 ≡ 92 ∷ codes "x1b"
escape = refl

-- after `frame  0  1`, `rst    1  0`
two_rows : IsTable 0 2 (record { name = codes "rst"; cells = codes "1" ∷ codes "0" ∷ [] } ∷ [])
    (codes "frame  0  1\nrst    1  0\n")
unfolding block_text blocks_text digits line_text
two_rows = (2, 2 ∷ [], refl, refl)

-- `a5` and `8'd165` are the bits 1, 0, 1, 0, 0, 1, 0, 1 from bit 0 up
abbrev bits_of_a5 : List Tern
bits_of_a5 = One ∷ Zero ∷ One ∷ Zero ∷ Zero ∷ One ∷ Zero ∷ One ∷ []

hexadecimal_a5 : Reads (codes "a5") bits_of_a5
hexadecimal_a5 = value.Reads.reads_digits ((some, all_digits), record { bits_are = refl; others = All-nil _ })
  where
    some : codes "a5" ≢ []
    some e = let no : ⊥ = cc in no

    all_digits : All (IsDigit 16) (codes "a5")
    all_digits = All-cons (IsDigit 16) 97 (53 ∷ []) (10, refl, omega arith)
        (All-cons (IsDigit 16) 53 [] (5, refl, omega arith) (All-nil _))

decimal_165 : Reads (codes "8'd165") bits_of_a5
unfolding digits number_bits
decimal_165 = value.Reads.reads_sized (codes "8") (codes "d165") refl (
  refl,
  value.ReadsBase.in_base_10 (codes "165") refl (
    (some, all_digits),
    omega arith,
    record { bits_are = refl; others = zeros },
  ),
)
  where
    some : codes "165" ≢ []
    some e = let no : ⊥ = cc in no

    all_digits : All (IsDigit 10) (codes "165")
    all_digits = All-cons (IsDigit 10) 49 (54 ∷ 53 ∷ []) (1, refl, omega arith)
        (All-cons (IsDigit 10) 54 (53 ∷ []) (6, refl, omega arith)
        (All-cons (IsDigit 10) 53 [] (5, refl, omega arith) (All-nil _)))

    all_zero : (n : ℕ) → All (λ w. w ≡ Zero) (replicate n Zero)
    all_zero zero = All-nil _
    all_zero (suc n) = All-cons (λ w. w ≡ Zero) Zero (replicate n Zero) refl (all_zero n)

    zeros : All (λ w. w ≡ Zero) (drop 8 (number_bits 64 165))
    zeros = all_zero 56

-- `1x` is x and then 1
letters_1x : Reads (codes "1x") (X ∷ One ∷ [])
letters_1x = value.Reads.reads_letters refl refl

-- `x` is x for each bit
unknown_bits : (width : ℕ) → Reads (codes "x") (replicate width X)
unknown_bits width = value.Reads.reads_unknown (120, refl, refl) (ap (λ n. replicate n X) (sym (length_of width)))
  where
    length_of : (n : ℕ) → length (replicate n X) ≡ n
    length_of zero = refl
    length_of (suc n) = ap suc (length_of n)

-- a tab becomes a space
tab : spaced_byte 9 ≡ 32
tab = refl
