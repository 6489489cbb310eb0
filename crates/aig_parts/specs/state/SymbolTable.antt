-- Entries that have a name: those of a file in a list, and those that are inserted later in a table by hash.
use Rattle.std.specs.Prelude.{◌≢◌, ℕ, ◌+◌, ◌*◌, ◌<◌, List, ◌++◌, AllPairs, Option, Some, None}
use Rattle.std.specs.Map.{keys_of}
use Rattle.aig_parts.specs.declared.symbols.hash.SymbolHash.{SymbolHash}
use Rattle.aig_parts.specs.declared.symbols.places.Place.{Place}
use Rattle.aig_parts.specs.SymbolPlaces.{Key}
use Rattle.aig_parts.specs.state.NamedEntries.{section_number}
use Rattle.aig_parts.specs.state.SymbolRanks.{Ranks, AreEntered}

-- entries by section, and within one by position
abbrev pub key_number : Key → ℕ
key_number k = section_number k.0 * 4294967296 + k.1

-- each entry has a smaller number than any later one
abbrev pub Ascend : List (Key × Place) → Type 0
Ascend entries = AllPairs (λ x y. key_number x.0 < key_number y.0) entries

-- listed entries are found by their ranks, or else ascend
abbrev pub AreFindable : List (Key × Place) → Option Ranks → Type 0
AreFindable listed None = Ascend listed
AreFindable listed (Some ranks) = AreEntered ranks listed

-- listed entries are findable, and no entry comes twice
pub record IsSymbolTable (listed : List (Key × Place)) (ranks : Option Ranks) (others : List (Key × Place)) : Type
    0 where
  pub findable : AreFindable listed ranks
  pub once : AllPairs (λ x y. x ≢ y) (keys_of (listed ++ others))

-- a table as contracts see it: its entries, and how those of them that are not listed are hashed
pub record Table : Type 0 where
  pub entries : List (Key × Place)
  pub hash : SymbolHash
