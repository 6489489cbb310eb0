-- A circuit whose properties of one section have the names of a text, one per line (our own choice).
-- Example: `aag 1 1 0 0 0 2/2/2/3/` with `p//`: the symbol `b0 p`.
use Rattle.std.specs.Prelude.{◌≡◌, ◌≢◌, ℕ, ◌+◌, List, [], ◌∷◌, ◌++◌, length, filter, Bool, true, false, All, ⊤}
use Rattle.std.specs.List.{flat_map}
use Rattle.aig_parts.specs.declared.raw.Raw.{Raw}
use Rattle.aig_parts.specs.declared.symbols.Kind.{Kind}
use Rattle.aig_parts.specs.declared.symbols.Kind.TheVariants as kinds
use Rattle.aig_parts.specs.SymbolPlaces.{Key}
use Rattle.aig_base.specs.Selected.{kind_of, properties_in}
use Rattle.aig_base.specs.declared.select.PropertySection.{PropertySection}
use Rattle.aig_base.specs.declared.select.PropertySection.TheVariants as sections
use Rattle.aig_signals.specs.declared.property.fault.NamesFault.{NamesFault}
use Rattle.aig_signals.specs.declared.property.fault.NamesFault.TheVariants as faults

-- the text is these lines, each with an LF at its end
pub record AreLines (text : List ℕ) (lines : List (List ℕ)) : Type 0 where
  pub spelled : text ≡ flat_map (λ line. line ++ 10 ∷ []) lines
  pub ended : All (λ line. All (λ b. b ≢ 10) line) lines

-- the entry is in another section
abbrev pub is_other : PropertySection → Kind → Bool
is_other sections.Bad kinds.Bad = false
is_other sections.Outputs kinds.Output = false
is_other section kind = true

-- the symbol that a line gives to an entry: an empty one gives none
abbrev pub symbol_of : Kind → ℕ → List ℕ → List (Key × List ℕ)
symbol_of kind p [] = []
symbol_of kind p (b ∷ bs) = ((kind, p), b ∷ bs) ∷ []

-- the symbols that lines give to the entries from position p on
unfoldable pub symbols_from : Kind → ℕ → List (List ℕ) → List (Key × List ℕ)
symbols_from kind p [] = []
symbols_from kind p (line ∷ lines) = symbol_of kind p line ++ symbols_from kind (p + 1) lines

-- the circuit with these symbols
abbrev pub with_symbols : Raw → List (Key × List ℕ) → Raw
with_symbols raw symbols = record raw { symbols = symbols }

-- the circuit whose properties of a section have these names; the symbols of other sections stay, and come first
abbrev pub with_names : Raw → PropertySection → List (List ℕ) → Raw
with_names raw section names =
    with_symbols raw (filter (λ s. is_other section s.0.0) raw.symbols ++ symbols_from (kind_of section) 0 names)

-- the names are as many as the section has properties
abbrev pub AreNamesOf : Raw → PropertySection → List ℕ → List (List ℕ) → Type 0
AreNamesOf raw section text names = AreLines text names × (length names ≡ length (properties_in section raw))

-- x is the circuit whose properties have the names of the text
abbrev pub IsNamed : Raw → PropertySection → List ℕ → Raw → Type 0
IsNamed raw section text x =
    (names : List (List ℕ)) × AreNamesOf raw section text names × (x ≡ with_names raw section names)

-- why there are no names: the text is not one line per property; out of memory may come in any case
abbrev pub RefusesNames : Raw → PropertySection → List ℕ → NamesFault → Type 0
RefusesNames raw section text faults.Lines = (names : List (List ℕ)) → AreNamesOf raw section text names → ⊥
RefusesNames raw section text faults.Memory = ⊤
