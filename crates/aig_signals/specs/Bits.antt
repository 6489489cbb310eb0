-- A name X by the words X[n] of any entries: all its bits from the least n to the greatest, unless one is missing (our
-- own choice).
-- Example: with the words `v[0]` of one entry and `v[1]` of another, `v` is both.
use Rattle.std.specs.Prelude.{ℕ, ◌+◌, ◌-◌, ◌==◌, min, max, if◌then◌else◌, List, [], ◌∷◌, length, map, Option, None}
use Rattle.std.specs.Prelude.{Some, option_map, fold, find, filter_map, flat_map}
use Rattle.std.specs.List.{range_with_len}
use Rattle.std.specs.Str.{bytes_eq}
use Rattle.aig_parts.specs.declared.raw.Raw.{Raw}
use Rattle.aig_parts.specs.declared.symbols.Kind.{Kind}
use Rattle.aig_names.specs.Vectors.{bit_of}
use Rattle.aig_signals.specs.declared.bits.WordBit.{WordBit}
use Rattle.aig_signals.specs.Names.{readable, entry_words, literal_of, literals_of, sections}

-- n, where a word is X[n]
abbrev pub index_in : List ℕ → Option (List ℕ × ℕ) → Option ℕ
index_in x None = None
index_in x (Some bit) = if bytes_eq bit.0 x then Some bit.1 else None

-- a word X[n] of an entry with this literal
abbrev pub word_bit : List ℕ → ℕ → List ℕ → Option WordBit
word_bit x literal word = option_map (λ n. record { index = n; literal = literal }) (index_in x (bit_of word))

-- those of an entry
abbrev pub entry_bits : Raw → List ℕ → Kind → ℕ → List WordBit
entry_bits raw x kind p = filter_map (word_bit x (literal_of raw kind p)) (map readable (entry_words raw kind p))

-- those of a section
unfoldable pub section_bits : Raw → List ℕ → Kind → List WordBit
section_bits raw x kind = flat_map (entry_bits raw x kind) (range_with_len 0 (length (literals_of raw kind)))

-- all words X[n], in the order of the circuit
abbrev pub word_bits : Raw → List ℕ → List WordBit
word_bits raw x = flat_map (section_bits raw x) sections

-- the literal of bit n; of two the earlier one is meant
abbrev pub bit_literal : List WordBit → ℕ → Option ℕ
bit_literal bits n = option_map (λ bit. bit.literal) (find (λ bit. bit.index == n) bits)

-- all of these, unless one is missing
unfoldable pub all_there : List (Option ℕ) → Option (List ℕ)
all_there [] = Some []
all_there (None ∷ more) = None
all_there (Some x ∷ more) = option_map (λ xs. x ∷ xs) (all_there more)

-- the literals of the bits from n to m
abbrev pub bits_between : List WordBit → ℕ → ℕ → Option (List ℕ)
bits_between bits n m = all_there (map (bit_literal bits) (range_with_len n (m + 1 - n)))

-- the least and the greatest index
abbrev pub least_index : WordBit → List WordBit → ℕ
least_index bit more = fold (λ n b. min n b.index) bit.index more

abbrev pub greatest_index : WordBit → List WordBit → ℕ
greatest_index bit more = fold (λ n b. max n b.index) bit.index more

-- all bits from the least to the greatest
abbrev pub all_bits : List WordBit → Option (List ℕ)
all_bits [] = None
all_bits (bit ∷ more) = bits_between (bit ∷ more) (least_index bit more) (greatest_index bit more)

-- the literals that X means
unfoldable pub bits_named : Raw → List ℕ → Option (List ℕ)
bits_named raw x = all_bits (word_bits raw x)
