-- What the inputs and latches of a certificate stand for in a model (our own choice; `= LIT` and a mapping are forms of the
-- witness circuits of the Hardware Model Checking Competition). Those that stand for a literal of the model are shared,
-- and the others are the certificate's own.
-- Example: a latch with the symbol `= 4` stands for literal 4.
use Rattle.std.specs.Prelude.{◌≡◌, ◌≢◌, ◌⊎◌, ℕ, ◌<◌, List, ◌++◌, length, codes, decimal, Contains, Option, Some, None}
use Rattle.std.specs.Prelude.{slice_get, option_map}
use Rattle.aig_parts.specs.declared.raw.Raw.{Raw}
use Rattle.aig_parts.specs.declared.symbols.Kind.{Kind}
use Rattle.aig_parts.specs.declared.symbols.Kind.TheVariants.{Input, Latch as Latches}
use Rattle.aig_parts.specs.Literal.{variable, with_sign}
use Rattle.aig_parts.specs.SymbolPlaces.{Key}
use Rattle.aig_base.specs.Sections.{IsDefined}
use Rattle.aig_certificate.specs.declared.mapping.Pair.{Pair}
use Rattle.aig_certificate.specs.Mapping.{HasMapping, IsMapping, ArePairs}

-- the section is the inputs or the latches
abbrev pub IsSource : Kind → Type 0
IsSource kind = (kind ≡ Input) ⊎ (kind ≡ Latches)

-- the symbol of this input or latch begins with `= `, and this comes behind it
abbrev pub IsMarked : Raw → Key → List ℕ → Type 0
IsMarked certificate key word = IsSource key.0 × Contains certificate.symbols (key, codes "= " ++ word)

-- some input or latch has such a symbol
abbrev pub IsNamed : Raw → Type 0
IsNamed certificate = (key : Key) × (word : List ℕ) × IsMarked certificate key word

-- how a certificate says what is shared: by symbols, by the pairs of a mapping, or by the positions alone
pub data Sharing : Type 0 where
  symbols : Sharing
  pairs : List Pair → Sharing
  positions : Sharing

-- a symbol that begins with `= ` goes before a mapping
abbrev pub IsSharing : Raw → Raw → Sharing → Type 0
IsSharing model certificate symbols = IsNamed certificate
IsSharing model certificate (pairs ps) =
    (IsNamed certificate → ⊥) × IsMapping certificate ps × ArePairs model certificate ps
IsSharing model certificate positions = (IsNamed certificate → ⊥) × (HasMapping certificate → ⊥)

-- the literal of the input or latch at a position
abbrev pub literal_at : Raw → Kind → ℕ → Option ℕ
literal_at raw Input p = slice_get raw.inputs p
literal_at raw Latches p = option_map (λ x. x.lit) (slice_get raw.latches p)
literal_at raw kind p = None

-- the pairs say that the certificate's variable is this literal of the model: a negated literal of the variable is its
-- negation
abbrev pub IsPaired : List Pair → ℕ → ℕ → Type 0
IsPaired ps v l =
    (pair : Pair) × Contains ps pair × (variable pair.certificate ≡ v) × (with_sign pair.certificate pair.model ≡ l)

-- the input or latch stands for this literal of the model
abbrev pub StandsFor : Raw → Raw → Sharing → Key → ℕ → Type 0
StandsFor model certificate symbols key l = IsMarked certificate key (decimal l)
StandsFor model certificate (pairs ps) key l =
    (own : ℕ) × (literal_at certificate key.0 key.1 ≡ Some own) × IsPaired ps (variable own) l
StandsFor model certificate positions key l = literal_at model key.0 key.1 ≡ Some l

-- what an entry stands for, or none where it is the certificate's own
abbrev pub IsMeaning : Raw → Raw → Sharing → Key → Option ℕ → Type 0
IsMeaning model certificate sharing key (Some l) = StandsFor model certificate sharing key l
IsMeaning model certificate sharing key None = (l : ℕ) → StandsFor model certificate sharing key l → ⊥

-- what each input and each latch of a certificate stands for
pub record Meanings : Type 0 where
  pub inputs : List (Option ℕ)
  pub latches : List (Option ℕ)

pub record AreMeanings (model certificate : Raw) (meanings : Meanings) : Type 0 where
  pub input_count : length meanings.inputs ≡ length certificate.inputs
  pub latch_count : length meanings.latches ≡ length certificate.latches
  pub sharing : Sharing
  pub sharing_is : IsSharing model certificate sharing
  pub inputs : (p : ℕ) (m : Option ℕ) → slice_get meanings.inputs p ≡ Some m
      → IsMeaning model certificate sharing (Input, p) m
  pub latches : (p : ℕ) (m : Option ℕ) → slice_get meanings.latches p ≡ Some m
      → IsMeaning model certificate sharing (Latches, p) m

-- the symbol of this entry begins with `= `, and no literal of a defined variable of the model comes behind it
abbrev pub IsWrong : Raw → Raw → Key → Type 0
IsWrong model certificate key = (word : List ℕ) × IsMarked certificate key word
    × ((l : ℕ) → IsDefined model (variable l) → word ≢ decimal l)

-- no symbol says what is shared, and the comment has a mapping whose lines are no pairs
abbrev pub IsWrongMapping : Raw → Raw → Type 0
IsWrongMapping model certificate =
    (IsNamed certificate → ⊥) × HasMapping certificate
    × ((ps : List Pair) → IsMapping certificate ps → ArePairs model certificate ps → ⊥)

-- the entry comes before the other one: inputs before latches, each in the order of positions
abbrev pub IsBefore : Key → Key → Type 0
IsBefore a b = ((a.0 ≡ Input) × (b.0 ≡ Latches)) ⊎ ((a.0 ≡ b.0) × (a.1 < b.1))
