-- Entries that are looked up by a number, which a bit for each named entry gives.
use Rattle.std.specs.Prelude.{◌≡◌, ℕ, ◌+◌, ◌/◌, ◌%◌, ◌^◌, ◌<◌, List, length, slice_index, slice_index_or, count_ones}
use Rattle.aig_parts.specs.declared.symbols.places.Place.{Place}
use Rattle.aig_parts.specs.SymbolPlaces.{Key}
use Rattle.aig_parts.specs.state.NamedEntries.{page_of}

-- the first word of each page, all words, how many bits are set before each, and a place for each number
pub record Ranks : Type 0 where
  pub starts : List ℕ
  pub words : List ℕ
  pub before : List ℕ
  pub places : List ℕ

-- the word of an entry's bit
abbrev pub word_of : Ranks → Key → ℕ
word_of ranks k = slice_index ranks.starts (page_of k) + k.1 % 16384 / 64

-- how many bits are set in the words before, and in its own word from the entry's bit on
unfoldable pub number_of : Ranks → Key → ℕ
number_of ranks k =
    slice_index ranks.before (word_of ranks k) + count_ones (slice_index ranks.words (word_of ranks k) / 2 ^ (k.1 % 64))

-- the place of each entry, plus 1, is that of its number
abbrev pub AreEntered : Ranks → List (Key × Place) → Type 0
AreEntered ranks entries = (i : ℕ) (d : Key × Place) → i < length entries
    → slice_index ranks.places (number_of ranks (slice_index_or entries i d).0) ≡ i + 1
