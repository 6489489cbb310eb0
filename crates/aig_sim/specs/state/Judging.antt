-- What the verdict on a witness goes by while its run is recorded.
-- Example: after the rows `1` and `0` of a circuit whose constraint is input 2, constraint 0 is the first that is not 1,
-- at frame 1.
use Rattle.std.specs.Prelude.{◌≡◌, ◌≢◌, ℕ, suc, ◌-◌, ◌^◌, ◌<◌, ◌≤◌, List, [], length, IfNone, IfSome, Some, min, slice_get}
use Rattle.aig_parts.specs.declared.ternary.Tern.{Tern}
use Rattle.aig_parts.specs.declared.ternary.Tern.TheVariants.{One}
use Rattle.aig_parts.specs.declared.raw.Raw.{Raw}
use Rattle.aig_parts.specs.Limits.{frame_limit}
use Rattle.aig_base.specs.Value.{Value}
use Rattle.aig_values.specs.state.Frame.{HoldsAll}
use Rattle.aig_sim.specs.declared.witness.judging.FailedConstraint.{FailedConstraint}
use Rattle.aig_sim.specs.declared.witness.judging.Judgement.{Judgement}
use Rattle.aig_sim.specs.state.Running.{Recorded}
use Rattle.aig_sim.specs.Verdict.{IsNotOne, StartsWrong}
use Rattle.aig_sim.specs.WitnessText.{Witness}

-- at frame t the constraints before this place are 1
abbrev pub AreOneBefore : Raw → List Tern → List (List Tern) → ℕ → ℕ → Type 0
AreOneBefore raw start rows t end =
    (p l : ℕ) → p < end → slice_get raw.constraints p ≡ Some l → Value raw start rows t l One

-- at each frame before t all constraints are 1
abbrev pub AreHeld : Raw → List Tern → List (List Tern) → ℕ → Type 0
AreHeld raw start rows t = (u : ℕ) → u < t → AreOneBefore raw start rows u (length raw.constraints)

-- a run from this start with these rows, of whatever property
abbrev pub run_of : List Tern → List (List Tern) → Witness
run_of start rows = record { property = 0; start = start; rows = rows }

-- this constraint is the first that is not 1
pub record FailsFirst (raw : Raw) (start : List Tern) (rows : List (List Tern)) (at : FailedConstraint) : Type 0 where
  pub frame : at.frame < length rows
  pub fails : IsNotOne raw (run_of start rows) at.frame raw.constraints at.position
  pub frames_before : AreHeld raw start rows at.frame
  pub before : AreOneBefore raw start rows at.frame at.position

-- what is known of the constraints after all rows: the first that is not 1, if one is
pub record HasJudged (raw : Raw) (start : List Tern) (rows : List (List Tern)) (judgement : Judgement) : Type 0 where
  pub frames_are : judgement.frames ≡ min (length rows) (2 ^ 32 - 1)
  pub fails : IfSome judgement.failure (λ at. length rows < 2 ^ 32 → FailsFirst raw start rows at)
  pub held : IfNone judgement.failure (AreHeld raw start rows (length rows))

-- the frames of these rows were recorded and judged
abbrev pub RecordsAndJudges : {T : Type 0} → Recorded T → T → Judgement → Raw → List Tern → List (List Tern) → Type 0
RecordsAndJudges recorded recorder judgement raw start rows =
    recorded recorder raw start rows × HasJudged raw start rows judgement

-- the position is that of the first latch that starts at a value which its reset does not allow
pub record StartsWrongFirst (raw : Raw) (start : List Tern) (p : ℕ) : Type 0 where
  pub wrong : StartsWrong raw start p
  pub before : (q : ℕ) → q < p → StartsWrong raw start q → ⊥

-- all frames of a witness were judged, and these are the cells at the last of them
pub record JudgesRun (raw : Raw) (w : Witness) (cells : List Tern) (judgement : Judgement) : Type 0 where
  pub some : w.rows ≢ []
  pub few : length w.rows ≤ frame_limit
  pub judged : HasJudged raw w.start w.rows judgement
  pub cells_are : (u : ℕ) → length w.rows ≡ suc u → HoldsAll raw w.start w.rows u cells
