-- Which entries have a name while names are read, and where the names lie.
use Rattle.std.specs.Prelude.{◌≢◌, ◌↔◌, ℕ, ◌+◌, ◌*◌, ◌/◌, ◌%◌, ◌≤◌, List, [], length, All, AllPairs, Contains}
use Rattle.std.specs.Prelude.{slice_index_or}
use Rattle.std.specs.Map.{keys_of}
use Rattle.aig_parts.specs.declared.symbols.Kind.{Kind}
use Rattle.aig_parts.specs.declared.symbols.Kind.TheVariants.{Input, Latch, Output, Bad, Constraint, Justice, Fairness}
use Rattle.aig_parts.specs.declared.symbols.places.Place.{Place}
use Rattle.aig_parts.specs.SymbolPlaces.{Key}
use Rattle.aig_parts.specs.state.Bits.{HasBit}

-- the places stand in the list
abbrev pub IsPlaceIn : List ℕ → Key × Place → Type 0
IsPlaceIn text e = (e.1.start ≤ e.1.end) × (e.1.end ≤ length text)

-- a number for each section
abbrev pub section_number : Kind → ℕ
section_number Input = 0
section_number Latch = 1
section_number Output = 2
section_number Bad = 3
section_number Constraint = 4
section_number Justice = 5
section_number Fairness = 6

-- the page of an entry: pages of 16,384 positions, the seven sections in turn
abbrev pub page_of : Key → ℕ
page_of k = k.1 / 16384 * 7 + section_number k.0

-- the entry's bit is set in its page
unfoldable pub IsMarkedEntry : List (List ℕ) → Key → Type 0
IsMarkedEntry pages k = HasBit (slice_index_or pages (page_of k) []) (k.1 % 16384)

-- the bits are those of the entries that have a name
abbrev pub AreEntryMarks : List (List ℕ) → List Key → Type 0
AreEntryMarks pages keys = (k : Key) → IsMarkedEntry pages k ↔ Contains keys k

-- symbols as they are read: no entry comes twice, and the bits say which have come
pub record AreNamedEntries (pages : List (List ℕ)) (entries : List (Key × Place)) (text : List ℕ) : Type 0 where
  pub places : All (IsPlaceIn text) entries
  pub marks : AreEntryMarks pages (keys_of entries)
  pub once : AllPairs (λ x y. x ≢ y) (keys_of entries)
