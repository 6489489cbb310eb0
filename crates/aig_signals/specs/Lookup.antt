-- What a name means: literals, from bit 0 up (our own choice). Of two entries the earlier one is meant.
-- Example: `!q` is each bit of `q` negated.
use Rattle.std.specs.Prelude.{◌≡◌, ◌⊎◌, ℕ, zero, suc, ◌-◌, Bool, if◌then◌else◌, List, [], ◌∷◌, length, map, Option}
use Rattle.std.specs.Prelude.{None, Some, option_map, decimal}
use Rattle.std.specs.List.{list_any, find, range_with_len}
use Rattle.std.specs.Str.{bytes_eq}
use Rattle.aig_parts.specs.declared.raw.Raw.{Raw}
use Rattle.aig_parts.specs.declared.symbols.Kind.{Kind}
use Rattle.aig_parts.specs.SymbolPlaces.{Key}
use Rattle.aig_parts.specs.Literal.{variable, negation}
use Rattle.aig_base.specs.Sections.{IsDefined}
use Rattle.aig_signals.specs.declared.lookup.Rule.{Rule}
use Rattle.aig_signals.specs.declared.lookup.Rule.TheVariants as rule
use Rattle.aig_signals.specs.declared.signal.Signal.{Signal}
use Rattle.aig_signals.specs.Bits.{bits_named}
use Rattle.aig_signals.specs.Names.{first_name, further_names, position_name, literal_of, literals_of, sections}
use Rattle.aig_signals.specs.Signals.{signals_of}

-- the first of two where there is one, else the second
abbrev pub or_else : {X : Type 0} → Option X → Option X → Option X
or_else None second = second
or_else (Some x) second = Some x

-- whether a rule gives an entry a name
abbrev pub has_name : Raw → List ℕ → Rule → Kind → ℕ → Bool
has_name raw name rule.FirstName kind p = bytes_eq (first_name raw kind p) name
has_name raw name rule.FurtherWord kind p = list_any (λ word. bytes_eq word name) (further_names raw kind p)
has_name raw name rule.Position kind p = bytes_eq (position_name kind p) name

-- the least number below n that passes
unfoldable pub least : (ℕ → Bool) → ℕ → Option ℕ
least test zero = None
least test (suc n) = or_else (least test n) (if test n then Some n else None)

-- the earliest entry of a section to which a rule gives a name
abbrev pub in_section : Raw → List ℕ → Rule → Kind → Option Key
in_section raw name rule kind =
    option_map (λ p. (kind, p)) (least (has_name raw name rule kind) (length (literals_of raw kind)))

-- the earliest entry of these sections
abbrev pub in_sections : Raw → List ℕ → Rule → List Kind → Option Key
in_sections raw name rule [] = None
in_sections raw name rule (kind ∷ more) = or_else (in_section raw name rule kind) (in_sections raw name rule more)

-- the earliest of all entries
abbrev pub entry_by : Raw → List ℕ → Rule → Option Key
entry_by raw name rule = in_sections raw name rule sections

-- an entry's literal
abbrev pub entry_literal : Raw → Key → ℕ
entry_literal raw e = literal_of raw e.0 e.1

-- the literals of a signal, from its first entry up
abbrev pub signal_literals : Raw → Signal → List ℕ
signal_literals raw signal = map (literal_of raw signal.kind) (range_with_len signal.first (signal.end - signal.first))

-- a literal as a list
abbrev pub alone : ℕ → List ℕ
alone literal = literal ∷ []

-- the entry that a rule gives a name, as a list of its literal
abbrev pub literals_by : Raw → List ℕ → Rule → Option (List ℕ)
literals_by raw name rule = option_map alone (option_map (entry_literal raw) (entry_by raw name rule))

-- the earliest of these signals that has a name
abbrev pub named_in : List Signal → List ℕ → Option Signal
named_in signals name = find (λ signal. bytes_eq signal.name name) signals

-- the earliest of all signals
abbrev pub signal_named : Raw → List ℕ → Option Signal
signal_named raw name = named_in (signals_of raw) name

-- the earliest position of a section to which a rule gives a name
abbrev pub place_by : Raw → List ℕ → Kind → Rule → Option ℕ
place_by raw name kind rule = least (has_name raw name rule kind) (length (literals_of raw kind))

-- the earliest entry of a section that has a name: by its first name, by a further word, or by letter and position
unfoldable pub entry_in : Raw → List ℕ → Kind → Option ℕ
entry_in raw name kind =
    or_else (place_by raw name kind rule.FirstName)
    (or_else (place_by raw name kind rule.FurtherWord) (place_by raw name kind rule.Position))

-- what a name is that of: first names come first, then vectors, further words, words X[n] to X[m], and letters with
-- positions
unfoldable pub literals_called : Raw → List ℕ → Option (List ℕ)
literals_called raw name =
    or_else (literals_by raw name rule.FirstName) (or_else (option_map (signal_literals raw) (signal_named raw name))
    (or_else (literals_by raw name rule.FurtherWord)
    (or_else (bits_named raw name) (literals_by raw name rule.Position))))

-- the name is the number of a literal of variable 0, an input, a latch or a gate
abbrev pub IsNumber : Raw → List ℕ → ℕ → Type 0
IsNumber raw name l = (name ≡ decimal l) × IsDefined raw (variable l)

-- a name, or else a number
abbrev pub MeansPlainly : Raw → List ℕ → Option (List ℕ) → List ℕ → Type 0
MeansPlainly raw name None literals = (l : ℕ) × IsNumber raw name l × (literals ≡ alone l)
MeansPlainly raw name (Some called) literals = literals ≡ called

abbrev pub IsPlain : Raw → List ℕ → List ℕ → Type 0
IsPlain raw name literals = MeansPlainly raw name (literals_called raw name) literals

-- neither a name nor a number
abbrev pub IsNoName : Raw → List ℕ → Type 0
IsNoName raw name = (literals_called raw name ≡ None) × ((l : ℕ) → IsNumber raw name l → ⊥)

-- `!` in front of what is no name itself negates each bit
abbrev pub IsNegated : Raw → List ℕ → List ℕ → Type 0
IsNegated raw name literals =
    IsNoName raw name × ((rest : List ℕ) × (plain : List ℕ) × (name ≡ 33 ∷ rest) × IsPlain raw rest plain
    × (literals ≡ map negation plain))

-- the literals that a name means
abbrev pub Means : Raw → List ℕ → List ℕ → Type 0
Means raw name literals = IsPlain raw name literals ⊎ IsNegated raw name literals

-- it means none
abbrev pub Unknown : Raw → List ℕ → Type 0
Unknown raw name = IsNoName raw name × ((rest : List ℕ) → name ≡ 33 ∷ rest → IsNoName raw rest)
