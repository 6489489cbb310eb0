-- What is kept of a stimulus line that is being read.
-- Example: of `11` in a stimulus of width 1: that it is too long.
use Rattle.std.specs.Prelude.{◌≡◌, ◌≢◌, ℕ, ◌<◌, ◌≤◌, List, ◌++◌, length, map, All, Result, OnErr}
use Rattle.std.specs.List.{flat_map}
use Rattle.aig_parts.specs.declared.ternary.Tern.{Tern}
use Rattle.aig_sim.specs.declared.stimulus.fault.StimFault.{StimFault}
use Rattle.aig_sim.specs.declared.stimulus.fault.StimFault.TheVariants as fault
use Rattle.aig_sim.specs.declared.stimulus.row_parser.Shape.{Shape}
use Rattle.aig_sim.specs.declared.stimulus.row_parser.Shape.TheVariants.{Row, Long, Wrong}
use Rattle.aig_values.specs.Characters.{character}
use Rattle.aig_values.specs.InputRows.{HaveWidth}
use Rattle.aig_sim.specs.StimulusText.{row_line, IsCharacter}

-- the wanted length, the values while the line can still be a row, and for how many there is room
pub record RowParser : Type 0 where
  pub width : ℕ
  pub shape : Shape
  pub values : List Tern
  pub room : ℕ

-- this is what is kept of the line: its values, that it is longer than the width, or that a byte is no character
abbrev pub IsKept : ℕ → List ℕ → Shape → List Tern → Type 0
IsKept width line Row values = (line ≡ map character values) × (length values ≤ width)
IsKept width line Long values = All IsCharacter line × (width < length line)
IsKept width line Wrong values = All IsCharacter line → ⊥

-- the same, of all that is kept
pub record KeepsLine (width : ℕ) (line : List ℕ) (shape : Shape) (values : List Tern) : Type 0 where
  pub kept : IsKept width line shape values

-- the line has its width and its room after it took bytes; that needs memory only where there is no room for the width
pub record KeepsReserve {T E : Type 0} (old new : RowParser) (r : Result T E) : Type 0 where
  pub width : new.width ≡ old.width
  pub room : old.room ≤ new.room
  pub err : OnErr r (old.room < old.width)

-- the text so far is these rows and then a line of which this is kept
pub record HasRead (width : ℕ) (text : List ℕ) (rows : List (List Tern)) (shape : Shape)
    (values : List Tern) : Type 0 where
  pub widths : HaveWidth width rows
  pub line : List ℕ
  pub no_end : All (λ b. b ≢ 10) line
  pub text_is : text ≡ flat_map row_line rows ++ line
  pub keeps : KeepsLine width line shape values

-- a fault that a line has by itself
abbrev pub IsOfLine : StimFault → Type 0
IsOfLine (fault.Char n) = Unit {0}
IsOfLine (fault.Length n) = Unit {0}
IsOfLine fault.Unfinished = ⊥
IsOfLine fault.Limit = ⊥
IsOfLine fault.Memory = ⊥
IsOfLine fault.Io = ⊥
