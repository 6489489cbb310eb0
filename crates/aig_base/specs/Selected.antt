-- A circuit that keeps some of its properties: those at some positions of one section, in the section of bad state
-- properties or in that of outputs. The other of the two, justice and fairness are empty then (our own choice).
-- Example: properties 8, 9, 0 with the names `b2 never`, `b0 both`; of positions 2, 0: properties 0, 8 with the names
-- `b0 never`, `b1 both`.
use Rattle.std.specs.Prelude.{ℕ, ◌+◌, ◌==◌, ◌<◌, ◌≤◌, List, [], ◌∷◌, length, map, slice_index, if◌then◌else◌, All, Any}
use Rattle.std.specs.List.{flat_map, range_with_len}
use Rattle.aig_parts.specs.declared.raw.Raw.{Raw}
use Rattle.aig_parts.specs.declared.symbols.Kind.{Kind}
use Rattle.aig_parts.specs.declared.symbols.Kind.TheVariants as kinds
use Rattle.aig_parts.specs.Formed.{limit}
use Rattle.aig_parts.specs.SymbolPlaces.{Key}
use Rattle.aig_base.specs.declared.select.PropertySection.{PropertySection}
use Rattle.aig_base.specs.declared.select.PropertySection.TheVariants as sections
use Rattle.aig_base.specs.declared.select.SelectFault.{SelectFault}
use Rattle.aig_base.specs.declared.select.SelectFault.TheVariants as faults

-- the literals of the section
abbrev pub properties_in : PropertySection → Raw → List ℕ
properties_in sections.Bad raw = raw.bad
properties_in sections.Outputs raw = raw.outputs

-- the section, as symbols name it
abbrev pub kind_of : PropertySection → Kind
kind_of sections.Bad = kinds.Bad
kind_of sections.Outputs = kinds.Output

-- the parts, with these outputs and bad state properties as all properties, and with these symbols
abbrev pub with_properties : Raw → List ℕ → List ℕ → List (Key × List ℕ) → Raw
with_properties raw outputs bad symbols =
    record raw { outputs = outputs; bad = bad; justice = []; fairness = []; symbols = symbols }

-- the outputs, and the bad state properties, where these literals are all properties and are in this section
abbrev pub outputs_in : PropertySection → List ℕ → List ℕ
outputs_in sections.Bad literals = []
outputs_in sections.Outputs literals = literals

abbrev pub bad_in : PropertySection → List ℕ → List ℕ
bad_in sections.Bad literals = literals
bad_in sections.Outputs literals = []

-- the positions of a number in a list, the first element of which is at position j
unfoldable pub places_from : ℕ → List ℕ → ℕ → List ℕ
places_from j [] p = []
places_from j (q ∷ qs) p = if q == p then j ∷ places_from (j + 1) qs p else places_from (j + 1) qs p

-- the entries of the new section that are the property of this position, where those at some positions are kept
abbrev pub moved : PropertySection → List ℕ → ℕ → List Key
moved into positions p = map (λ j. (kind_of into, j)) (places_from 0 positions p)

-- the entries that are the entry at position p of a section: inputs, latches and constraints stay, a property is at
-- each place to which it is moved, any other entry is gone
abbrev pub kept_entries : PropertySection → PropertySection → List ℕ → Kind → ℕ → List Key
kept_entries from into positions kinds.Input p = (kinds.Input, p) ∷ []
kept_entries from into positions kinds.Latch p = (kinds.Latch, p) ∷ []
kept_entries from into positions kinds.Constraint p = (kinds.Constraint, p) ∷ []
kept_entries sections.Bad into positions kinds.Bad p = moved into positions p
kept_entries sections.Outputs into positions kinds.Output p = moved into positions p
kept_entries from into positions _ p = []

-- what is left of a symbol: each entry that the named one is keeps the name
abbrev pub kept_symbols : PropertySection → PropertySection → List ℕ → Key × List ℕ → List (Key × List ℕ)
kept_symbols from into positions s = map (λ entry. (entry, s.1)) (kept_entries from into positions s.0.0 s.0.1)

-- the circuit that keeps the properties at these positions of a section, in their order; symbols stay in the file's
-- order
abbrev pub selected_at : Raw → PropertySection → PropertySection → List ℕ → Raw
selected_at raw from into positions =
    let literals = map (slice_index (properties_in from raw)) positions in
    with_properties raw (outputs_in into literals) (bad_in into literals)
    (flat_map (kept_symbols from into positions) raw.symbols)

-- the positions that are named; all n where none is named
abbrev pub selected_positions : ℕ → List ℕ → List ℕ
selected_positions n [] = range_with_len 0 n
selected_positions n (p ∷ ps) = p ∷ ps

-- the circuit that keeps the properties of a section that are named, all where none is named
abbrev pub selected : Raw → PropertySection → PropertySection → List ℕ → Raw
selected raw from into named = selected_at raw from into (selected_positions (length (properties_in from raw)) named)

-- each position that is named is one of the section
abbrev pub AreProperties : Raw → PropertySection → List ℕ → Type 0
AreProperties raw from named = All (λ p. p < length (properties_in from raw)) named

-- the properties can be selected: they are no more than a section may have, and each is there
abbrev pub CanSelect : Raw → PropertySection → List ℕ → Type 0
CanSelect raw from named = (length named ≤ limit) × AreProperties raw from named

-- why nothing is selected: more positions than a section may have, else a position that the section does not have, else
-- that no memory was found
abbrev pub RefusesSelection : Raw → PropertySection → List ℕ → SelectFault → Type 0
RefusesSelection raw from named faults.Limit = limit < length named
RefusesSelection raw from named faults.Property =
    (length named ≤ limit) × Any (λ p. length (properties_in from raw) ≤ p) named
RefusesSelection raw from named faults.Memory = CanSelect raw from named
