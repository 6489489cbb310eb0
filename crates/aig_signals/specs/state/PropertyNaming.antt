-- Names that are added line by line.
use Rattle.std.specs.Prelude.{◌≡◌, ℕ, List, ◌++◌, length, filter, Contains, ⊤}
use Rattle.std.specs.Map.{keys_of}
use Rattle.aig_parts.specs.declared.symbols.Kind.{Kind}
use Rattle.aig_parts.specs.SymbolPlaces.{Key}
use Rattle.aig_base.specs.declared.select.PropertySection.{PropertySection}
use Rattle.aig_signals.specs.Named.{AreLines, is_other, symbols_from}
use Rattle.aig_signals.specs.declared.property.fault.NamesFault.{NamesFault}
use Rattle.aig_signals.specs.declared.property.fault.NamesFault.TheVariants as faults

-- the symbols of the other sections
abbrev pub other_symbols : PropertySection → List (Key × List ℕ) → List (Key × List ℕ)
other_symbols section symbols = filter (λ s. is_other section s.0.0) symbols

-- no entry of the section has a name
abbrev pub IsFreeFor : Kind → List (Key × List ℕ) → Type 0
IsFreeFor kind symbols = (p : ℕ) → Contains (keys_of symbols) (kind, p) → ⊥

-- the lines of the text, n of them, are the names that were added
abbrev pub AddsNames : Kind → ℕ → List ℕ → List (Key × List ℕ) → List (Key × List ℕ) → Type 0
AddsNames kind n text old new =
    (names : List (List ℕ)) × AreLines text names × (length names ≡ n) × (new ≡ old ++ symbols_from kind 0 names)

-- why they are not added: the text is no n lines, or else no memory was found
abbrev pub RefusesLines : ℕ → List ℕ → NamesFault → Type 0
RefusesLines n text faults.Lines = (names : List (List ℕ)) → AreLines text names → length names ≡ n → ⊥
RefusesLines n text faults.Memory = ⊤
