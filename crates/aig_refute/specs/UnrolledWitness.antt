-- The run and the witness that a row of input values of an unrolled circuit holds. Where the standard is silent, this
-- is our own choice.
-- Examples: in the row `10x` are the rows `1`, `0` and the start `x`; the row `101` makes the bad literal of frame 0 1,
-- and so the witness with the start `1` and the row `1` is confirmed; `10x` makes it x.
use Rattle.std.specs.Prelude.{◌≡◌, ◌≢◌, ◌↔◌, ℕ, zero, suc, ◌+◌, ◌-◌, ◌*◌, ◌<◌, ◌≤◌, if◌then◌else◌, List, [], ◌∷◌}
use Rattle.std.specs.Prelude.{length, take, drop, Some, slice_get, slice_index_or}
use Rattle.aig_parts.specs.declared.latch.Latch.{Latch}
use Rattle.aig_parts.specs.declared.raw.Raw.{Raw}
use Rattle.aig_parts.specs.declared.ternary.Tern.{Tern}
use Rattle.aig_parts.specs.declared.ternary.Tern.TheVariants.{One, X}
use Rattle.aig_base.specs.Runs.{IsAllowed, ReachesBad}
use Rattle.aig_base.specs.Value.{Value, Fits, reset_value}
use Rattle.aig_sim.specs.declared.witness.verdict.Verdict.{Verdict}
use Rattle.aig_sim.specs.declared.witness.verdict.Verdict.TheVariants as verdict
use Rattle.aig_sim.specs.declared.witness.fault.WitnessFault.{WitnessFault}
use Rattle.aig_sim.specs.declared.witness.fault.WitnessFault.TheVariants as fault
use Rattle.aig_sim.specs.Reached.{witness_at}
use Rattle.aig_sim.specs.Verdict.{IsVerdict}
use Rattle.aig_sim.specs.WitnessText.{Witness, IsDecimal, SpellsWitness, HasWitnessFault, witness_text}
use Rattle.aig_unroll.specs.FrameLiteral.{input_count, is_uninitialised}
use Rattle.aig_unroll.specs.Unrolled.{unrolled}
use Rattle.aig_unroll.specs.UnrolledValues.{unrolled_row}

-- k rows of a width, cut from the values one after the other
unfoldable pub cut : (width k : ℕ) → List Tern → List (List Tern)
cut width zero values = []
cut width (suc k) values = take width values ∷ cut width k (drop width values)

-- a start of these latches: the uninitialised ones take the values in turn, or x where there are none left; each other
-- latch has the value of its reset
unfoldable pub filled : List Latch → List Tern → List Tern
filled [] values = []
filled (x ∷ xs) values =
    if is_uninitialised x then slice_index_or values 0 X ∷ filled xs (drop 1 values)
    else reset_value x.reset ∷ filled xs values

-- the rows of the k frames that are in a row of values for the circuit unrolled for k frames
abbrev pub rows_in : Raw → ℕ → List Tern → List (List Tern)
rows_in raw k row = cut (length raw.inputs) k row

-- the start of the latches that is in it
abbrev pub start_in : Raw → ℕ → List Tern → List Tern
start_in raw k row = filled raw.latches (drop (k * length raw.inputs) row)

-- the run is in the row, and the row is that of the run
pub record HoldsRun (raw : Raw) (k : ℕ) (row start : List Tern) (rows : List (List Tern)) : Type 0 where
  pub start_is : start_in raw k row ≡ start
  pub rows_are : rows_in raw k row ≡ rows
  pub row_is : unrolled_row raw start rows ≡ row

-- a run of k frames from a start that the resets allow
pub record IsRun (raw : Raw) (k : ℕ) (start : List Tern) (rows : List (List Tern)) : Type 0 where
  pub frames : length rows ≡ k
  pub fits : Fits raw start rows
  pub allowed : IsAllowed raw start

-- the witness that the run which is in a row reaches property p at frame t
abbrev pub witness_in : Raw → ℕ → ℕ → ℕ → List Tern → Witness
witness_in raw k t p row = witness_at (start_in raw k row) (rows_in raw k row) t p

-- under the row, bad literal p of frame t of the unrolled circuit is 1
abbrev pub MakesBad : Raw → List ℕ → ℕ → List Tern → ℕ → ℕ → Type 0
MakesBad raw order k row t p =
    (g : ℕ) × (slice_get (unrolled raw order k).bad (t * length raw.bad + p) ≡ Some g)
    × Value (unrolled raw order k) [] (row ∷ []) 0 g One

-- the run reaches a property at a frame exactly where the witness of it is confirmed
abbrev pub ConfirmsReached : Raw → List Tern → List (List Tern) → Type 0
ConfirmsReached raw start rows =
    (t p b : ℕ) → t < length rows → slice_get raw.bad p ≡ Some b
    → ReachesBad raw start rows t b ↔ IsVerdict raw (witness_at start rows t p) verdict.Confirmed

-- the row makes a bad literal 1 exactly where the run in it reaches the property
abbrev pub ReachesInRow : Raw → List ℕ → ℕ → List Tern → Type 0
ReachesInRow raw order k row =
    (t p b : ℕ) → t < k → slice_get raw.bad p ≡ Some b
    → MakesBad raw order k row t p ↔ ReachesBad raw (start_in raw k row) (rows_in raw k row) t b

-- and exactly where the witness in it is confirmed
abbrev pub ConfirmsRow : Raw → List ℕ → ℕ → List Tern → Type 0
ConfirmsRow raw order k row =
    (t p : ℕ) → t < k → p < length raw.bad
    → MakesBad raw order k row t p ↔ IsVerdict raw (witness_in raw k t p row) verdict.Confirmed

-- the text spells the witness, and `check_witness` can return nothing but that it is confirmed, or that memory ran out
pub record IsCheckedConfirmed (raw : Raw) (w : Witness) (text : List ℕ) : Type 0 where
  pub spelled : SpellsWitness raw text w
  pub verdicts : (u : Witness) (v : Verdict) → SpellsWitness raw text u → IsVerdict raw u v → v ≡ verdict.Confirmed
  pub faults : (f : WitnessFault) → HasWitnessFault raw text f → f ≡ fault.Memory

-- that is so of each text of a witness in the row, where the row makes the bad literal 1
abbrev pub ChecksRow : Raw → List ℕ → ℕ → List Tern → Type 0
ChecksRow raw order k row =
    (t p : ℕ) (digits : List ℕ) → t < k → p < length raw.bad → MakesBad raw order k row t p → IsDecimal digits p
    → IsCheckedConfirmed raw (witness_in raw k t p row)
    (witness_text digits (start_in raw k row) (witness_in raw k t p row).rows)

-- a confirmed witness of k frames at most
pub record IsConfirmedWithin (raw : Raw) (k : ℕ) (w : Witness) : Type 0 where
  pub fits : Fits raw w.start w.rows
  pub some : w.rows ≢ []
  pub frames : length w.rows ≤ k
  pub property : w.property < length raw.bad
  pub confirmed : IsVerdict raw w verdict.Confirmed

-- the witness is in a row, which makes its bad literal 1
abbrev pub IsInRow : Raw → List ℕ → ℕ → Witness → Type 0
IsInRow raw order k w =
    (row : List Tern) × (length row ≡ input_count raw k)
    × (witness_in raw k (length w.rows - 1) w.property row ≡ w)
    × MakesBad raw order k row (length w.rows - 1) w.property
