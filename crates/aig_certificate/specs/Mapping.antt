-- The mapping that the comment of a certificate may have (a form of the witness circuits of the Hardware Model Checking
-- Competition; what is read of it is our own choice): `MAPPING N`, and N lines of a literal of the certificate and one
-- of the model.
-- Example: the lines `MAPPING 1` and `2 5` say that literal 2 of the certificate is literal 5 of the model.
use Rattle.std.specs.Prelude.{◌≡◌, ◌≢◌, ℕ, ◌^◌, ◌<◌, ◌==◌, nat_eq, if◌then◌else◌, List, [], ◌∷◌, ◌++◌, length, map}
use Rattle.std.specs.Prelude.{codes, decimal, All, Contains, Option, Some, None}
use Rattle.std.specs.List.{slice_split, starts_with}
use Rattle.aig_parts.specs.declared.raw.Raw.{Raw}
use Rattle.aig_parts.specs.Literal.{variable}
use Rattle.aig_base.specs.Sections.{IsDefined}
use Rattle.aig_base.specs.Sound.{StandsTwice}
use Rattle.aig_certificate.specs.declared.mapping.Pair.{Pair}

-- the lines of a text: LF separates them
abbrev pub lines : List ℕ → List (List ℕ)
lines text = slice_split (λ b. b == 10) text

-- the lines from the first on that begins with `MAPPING`
unfoldable pub from_mapping : List (List ℕ) → List (List ℕ)
from_mapping [] = []
from_mapping (line ∷ more) = if starts_with nat_eq line (codes "MAPPING") then line ∷ more else from_mapping more

-- those lines of the certificate's comment
abbrev pub mapping_lines : Option (List ℕ) → List (List ℕ)
mapping_lines None = []
mapping_lines (Some comment) = from_mapping (lines comment)

-- some line of the comment begins with `MAPPING`
abbrev pub HasMapping : Raw → Type 0
HasMapping certificate = mapping_lines certificate.comment ≢ []

-- the first line of a mapping of n pairs
abbrev pub heading : ℕ → List ℕ
heading n = codes "MAPPING " ++ decimal n

-- the line of a pair
abbrev pub pair_line : Pair → List ℕ
pair_line pair = decimal pair.certificate ++ 32 ∷ decimal pair.model

-- the mapping has these pairs; the lines behind them say nothing
pub record IsMapping (certificate : Raw) (pairs : List Pair) : Type 0 where
  pub after : List (List ℕ)
  pub lines_are : mapping_lines certificate.comment ≡ heading (length pairs) ∷ (map pair_line pairs ++ after)
  pub few : length pairs < 2 ^ 32

-- the literal is one of an input or a latch, or its negation
abbrev pub IsOfEntry : Raw → ℕ → Type 0
IsOfEntry certificate l =
    Contains (map variable (certificate.inputs ++ map (λ x. x.lit) certificate.latches)) (variable l)

-- a literal of an input or a latch of the certificate, and one of a variable that the model defines
abbrev pub IsPair : Raw → Raw → Pair → Type 0
IsPair model certificate pair = IsOfEntry certificate pair.certificate × IsDefined model (variable pair.model)

-- each pair is one, and no two are of one input or latch
pub record ArePairs (model certificate : Raw) (pairs : List Pair) : Type 0 where
  pub each : All (IsPair model certificate) pairs
  pub once : (v : ℕ) → StandsTwice (map (λ p. variable p.certificate) pairs) v → ⊥
