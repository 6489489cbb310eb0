-- What bytes spell. What makes parts a circuit, such as the range of literals and what a reset may be, is no part of
-- it. Where the standard is silent, the greatest number is our own choice.
-- Example: both files above spell the same latch.
use Rattle.std.specs.Prelude.{◌≡◌, ℕ, ◌+◌, ◌≤◌, List, ◌++◌, length, map, true, All}
use Rattle.aig_parts.specs.declared.raw.Raw.{Raw}
use Rattle.aig_parts.specs.Formed.{limit, IsFormed}
use Rattle.aig_base.specs.Renumbered.{IsBinaryReady}
use Rattle.aig_base.specs.Sections.{definitions, uses}
use Rattle.aig_format.specs.declared.reader.header.Format.{Format}
use Rattle.aig_format.specs.declared.reader.header.Format.TheVariants.{Ascii, Binary}
use Rattle.aig_format.specs.Header.{are_wrong, header_line}
use Rattle.aig_format.specs.Spelling.{WrittenZeros, ascii, binary}

-- the greatest number of a circuit's body
abbrev pub greatest : ℕ
greatest = 8388607

-- the numbers of the body, but for the sizes of the justice properties
abbrev pub body_numbers : Raw → List ℕ
body_numbers raw = definitions raw ++ uses raw ++ map (λ x. x.reset) raw.latches

-- what parts need to have a spelling
pub record HasSpelling (raw : Raw) : Type 0 where
  pub formed : IsFormed raw
  pub numbers : All (λ n. n ≤ greatest) (body_numbers raw)
  pub room : length raw.inputs + length raw.latches + length raw.gates ≤ raw.max_var

-- the bytes are the text of these parts in this format; a binary text leaves out inputs, latches and left sides
abbrev pub IsTextIn : Format → List ℕ → Raw → Type 0
IsTextIn Ascii bytes raw = (zeros : WrittenZeros) × (bytes ≡ ascii zeros raw)
IsTextIn Binary bytes raw = (zeros : WrittenZeros) × IsBinaryReady raw × (bytes ≡ binary zeros raw)

-- in one of the two formats
abbrev pub IsTextOf : List ℕ → Raw → Type 0
IsTextOf bytes raw = (format : Format) × IsTextIn format bytes raw

abbrev pub Spells : List ℕ → Raw → Type 0
Spells bytes raw = HasSpelling raw × IsTextOf bytes raw

-- the header line is spelled within its limits, and its counts do not go together
pub record HasWrongCounts (bytes : List ℕ) : Type 0 where
  pub format : Format
  pub counts : List ℕ
  pub nine : length counts ≡ 9
  pub within : All (λ n. n ≤ limit) counts
  pub least : ℕ
  pub rest : List ℕ
  pub spelled : bytes ≡ header_line format least counts ++ rest
  pub wrong : are_wrong format counts ≡ true
