-- The text of a witness: the line `1`, the line `b` and a position, a line of latches' values, one line of inputs'
-- values per frame, and the line `.` (AIGER 1.9, witnesses). Where the standard is silent, this is our own choice.
-- Example: `1/b0//x/./` is property 0, an empty start and the row `x`; `1/b00//x/./` is none.
use Rattle.std.specs.Prelude.{◌≡◌, ◌≢◌, ℕ, ◌+◌, ◌*◌, ◌<◌, ◌≤◌, List, [], ◌∷◌, ◌++◌, length, flat_map}
use Rattle.aig_parts.specs.declared.ternary.Tern.{Tern}
use Rattle.aig_parts.specs.declared.raw.Raw.{Raw}
use Rattle.aig_sim.specs.declared.witness.fault.WitnessFault.{WitnessFault}
use Rattle.aig_sim.specs.declared.witness.fault.WitnessFault.TheVariants as fault
use Rattle.aig_parts.specs.Limits.{frame_limit}
use Rattle.aig_values.specs.InputRows.{HaveWidth}
use Rattle.aig_sim.specs.StimulusText.{row_line}

-- the digits are the number in decimal, of any length and without leading zeros: a digit, or a positive number and a
-- digit
pub data IsDecimal : List ℕ → ℕ → Type 0 where
  digit : (d : ℕ) → d < 10 → IsDecimal ((48 + d) ∷ []) d
  more : (digits : List ℕ) (n d : ℕ) → 0 < n → d < 10 → IsDecimal digits n
      → IsDecimal (digits ++ (48 + d) ∷ []) (n * 10 + d)

-- the position of a bad state property, a start value a latch, and a row of inputs' values a frame
pub record Witness : Type 0 where
  pub property : ℕ
  pub start : List Tern
  pub rows : List (List Tern)

-- a line a row, and the line `.`
abbrev pub witness_rows_text : List (List Tern) → List ℕ
witness_rows_text rows = flat_map row_line rows ++ (46 ∷ (10 ∷ []))

-- `1`, `b` and the position, the start, the rows, `.`, a line each
abbrev pub witness_text : List ℕ → List Tern → List (List Tern) → List ℕ
witness_text digits start rows = 49 ∷ (10 ∷ (98 ∷ (digits ++ (10 ∷ (row_line start ++ witness_rows_text rows)))))

-- the text is this witness of a run of the circuit, of one frame or more
pub record SpellsWitness (raw : Raw) (text : List ℕ) (w : Witness) : Type 0 where
  pub start_is : length w.start ≡ length raw.latches
  pub widths : HaveWidth (length raw.inputs) w.rows
  pub some : w.rows ≢ []
  pub digits : List ℕ
  pub position : IsDecimal digits w.property
  pub text_is : text ≡ witness_text digits w.start w.rows

-- the circuit has the property, and the frames are within the limit
abbrev pub IsAdmitted : Raw → Witness → Type 0
IsAdmitted raw w = (w.property < length raw.bad) × (length w.rows ≤ frame_limit)

-- the text is an admitted witness of the property at this position
abbrev pub IsWitnessOf : ℕ → Raw → List ℕ → Type 0
IsWitnessOf property raw text = (w : Witness) × SpellsWitness raw text w × IsAdmitted raw w × (w.property ≡ property)

-- the first of the faults: no witness's text; no such property; over 65,536 frames
abbrev pub HasWitnessFault : Raw → List ℕ → WitnessFault → Type 0
HasWitnessFault raw text fault.Text = (w : Witness) → SpellsWitness raw text w → ⊥
HasWitnessFault raw text fault.Property = (w : Witness) × SpellsWitness raw text w × (length raw.bad ≤ w.property)
HasWitnessFault raw text fault.Limit =
    (w : Witness) × SpellsWitness raw text w × (w.property < length raw.bad) × (frame_limit < length w.rows)
HasWitnessFault raw text fault.Memory = Unit {0}
