-- How far a check of a witness has come.
-- Example: after frame 0 of `1/b0/0///./` the rest is `/./`.
use Rattle.std.specs.Prelude.{◌≡◌, ◌≢◌, ℕ, suc, ◌+◌, ◌<◌, min, List, [], ◌∷◌, ◌++◌, length, map, take, drop, Some}
use Rattle.std.specs.Prelude.{slice_get}
use Rattle.aig_parts.specs.Formed.{limit}
use Rattle.aig_parts.specs.declared.ternary.Tern.{Tern}
use Rattle.aig_parts.specs.declared.ternary.Tern.TheVariants.{One}
use Rattle.aig_parts.specs.declared.raw.Raw.{Raw}
use Rattle.aig_sim.specs.declared.witness.text.WitnessParts.{WitnessParts}
use Rattle.aig_values.specs.Cells.{literal_value}
use Rattle.aig_values.specs.state.Frame.{HoldsAll, AreStates}
use Rattle.aig_values.specs.Characters.{character}
use Rattle.aig_values.specs.InputRows.{HaveWidth}
use Rattle.aig_sim.specs.Verdict.{IsNotOne}
use Rattle.aig_sim.specs.WitnessText.{Witness, witness_rows_text}

-- the text begins with a line of so many values
abbrev pub BeginsWithRow : ℕ → List ℕ → Type 0
BeginsWithRow width text =
    (row : List Tern) × (rest : List ℕ) × (length row ≡ width) × (text ≡ map character row ++ (10 ∷ rest))

-- the text is so many rows of the width, and the line `.`
pub record SpellsFrames (width : ℕ) (text : List ℕ) (rows : List (List Tern)) : Type 0 where
  pub widths : HaveWidth width rows
  pub text_is : text ≡ witness_rows_text rows

-- the parts of the text of this witness, where positions over the limit of a section count as the one after it
pub record ArePartsOf (raw : Raw) (parts : WitnessParts) (w : Witness) : Type 0 where
  pub latches : length w.start ≡ length raw.latches
  pub some : w.rows ≢ []
  pub property_is : parts.property ≡ min w.property (limit + 1)
  pub frames_are : parts.frames ≡ length w.rows
  pub start_is : parts.start.now ≡ map character w.start ++ (10 ∷ parts.rows.now)
  pub rows_are : SpellsFrames (length raw.inputs) parts.rows.now w.rows

-- by these cells the literal at position p is not 1
pub record ReadsNotOne (cells : List Tern) (literals : List ℕ) (p : ℕ) : Type 0 where
  pub literal : ℕ
  pub literal_is : slice_get literals p ≡ Some literal
  pub not_one : literal_value cells literal ≢ One

-- at no frame before t a constraint is not 1
abbrev pub HoldConstraints : Raw → Witness → ℕ → Type 0
HoldConstraints raw w t = (u q : ℕ) → u < t → IsNotOne raw w u raw.constraints q → ⊥

-- After t frames of the witness: the rest of its text, the latches' values, and the cells at the last of these frames.
pub record HasRun (raw : Raw) (w : Witness) (t : ℕ) (rest : List ℕ) (cells states : List Tern) : Type 0 where
  pub rest_is : rest ≡ witness_rows_text (drop t w.rows)
  pub states_are : AreStates raw w.start (take t w.rows) t states
  pub cells_are : (u : ℕ) → t ≡ suc u → HoldsAll raw w.start w.rows u cells
  pub constrained : HoldConstraints raw w t

-- constraint p at frame t is the first that is not 1
pub record IsFirstFailure (raw : Raw) (w : Witness) (t p : ℕ) : Type 0 where
  pub frame : t < length w.rows
  pub fails : IsNotOne raw w t raw.constraints p
  pub frames_before : HoldConstraints raw w t
  pub before : (q : ℕ) → q < p → IsNotOne raw w t raw.constraints q → ⊥
