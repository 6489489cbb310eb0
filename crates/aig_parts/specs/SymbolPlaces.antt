-- Names that lie in one list of bytes.
-- Example: of the bytes `ena` the place from 0 to 2 has the name `en`.
use Rattle.std.specs.Prelude.{ℕ, List, map, slice_range}
use Rattle.aig_parts.specs.declared.symbols.Kind.{Kind}
use Rattle.aig_parts.specs.declared.symbols.places.Place.{Place}

-- an entry: its section and its position there
abbrev pub Key : Type 0
Key = Kind × ℕ

-- the bytes between two places
abbrev pub symbol_in : List ℕ → Key × Place → Key × List ℕ
symbol_in text e = (e.0, slice_range text e.1.start e.1.end)

abbrev pub symbols_in : List ℕ → List (Key × Place) → List (Key × List ℕ)
symbols_in text entries = map (symbol_in text) entries
