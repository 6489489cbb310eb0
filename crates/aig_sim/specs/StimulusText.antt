-- The text of a stimulus: one line per frame, one character per input, each line ended by LF. Where the standard is
-- silent, this is our own choice.
-- Example: `11/1z/` of width 2 is one row and then `Char(2)`.
use Rattle.std.specs.Prelude.{◌≡◌, ◌≢◌, ◌⊎◌, ℕ, ◌+◌, ◌-◌, ◌^◌, min, List, [], ◌∷◌, ◌++◌, length, map, All}
use Rattle.std.specs.List.{flat_map}
use Rattle.aig_parts.specs.declared.ternary.Tern.{Tern}
use Rattle.aig_sim.specs.declared.stimulus.fault.StimFault.{StimFault}
use Rattle.aig_sim.specs.declared.stimulus.fault.StimFault.TheVariants as fault
use Rattle.aig_parts.specs.Limits.{frame_limit}
use Rattle.aig_values.specs.Characters.{character}
use Rattle.aig_values.specs.InputRows.{HaveWidth}

abbrev pub row_line : List Tern → List ℕ
row_line row = map character row ++ 10 ∷ []

-- the text is these rows, a line each
pub record SpellsRows (width : ℕ) (text : List ℕ) (rows : List (List Tern)) : Type 0 where
  pub widths : HaveWidth width rows
  pub text_is : text ≡ flat_map row_line rows

abbrev pub IsCharacter : ℕ → Type 0
IsCharacter b = (b ≡ 48) ⊎ ((b ≡ 49) ⊎ (b ≡ 120))

-- a line as messages number it, from 1; the greatest number of 64 bits stands for any greater
abbrev pub line_number : ℕ → ℕ
line_number before = min (before + 1) (2 ^ 64 - 1)

abbrev pub EndsLine : List ℕ → Type 0
EndsLine rest = (more : List ℕ) × (rest ≡ 10 ∷ more)

-- the line has this fault, with `before` good ones before it and the bytes `rest` after it: no LF ends it; else a byte
-- other than `0 1 x`; else a wrong length; else it is the 65,537th
abbrev pub HasFault : (width before : ℕ) (line rest : List ℕ) → StimFault → Type 0
HasFault width before line rest fault.Unfinished = (rest ≡ []) × (line ≢ [])
HasFault width before line rest (fault.Char n) = (n ≡ line_number before) × EndsLine rest × (All IsCharacter line → ⊥)
HasFault width before line rest (fault.Length n) =
    (n ≡ line_number before) × EndsLine rest × All IsCharacter line × (length line ≢ width)
HasFault width before line rest fault.Limit =
    (before ≡ frame_limit) × EndsLine rest × All IsCharacter line × (length line ≡ width)
HasFault width before line rest fault.Memory = ⊥
HasFault width before line rest fault.Io = ⊥

-- the text is these rows and then, where they are at most 65,536, its first faulty line
pub record HasFaultyLine (width : ℕ) (text : List ℕ) (rows : List (List Tern)) (fault : StimFault) : Type 0 where
  pub widths : HaveWidth width rows
  pub line : List ℕ
  pub rest : List ℕ
  pub no_end : All (λ b. b ≢ 10) line
  pub text_is : text ≡ flat_map row_line rows ++ (line ++ rest)
  pub fault_is : HasFault width (length rows) line rest fault

-- what was read of a text so far: these rows, and a piece of the next line
pub record HoldsRows (width : ℕ) (text : List ℕ) (rows : List (List Tern)) : Type 0 where
  pub widths : HaveWidth width rows
  pub rest : List ℕ
  pub no_end : All (λ b. b ≢ 10) rest
  pub text_is : text ≡ flat_map row_line rows ++ rest
