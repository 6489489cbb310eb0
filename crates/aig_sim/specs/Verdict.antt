-- What a witness shows of a circuit (AIGER 1.9, witnesses and resets). Where the standard is silent, as about x, this
-- is our own choice.
-- Example: input 2 is bad: `x` gives `NotBad`, `1` gives `Confirmed`.
use Rattle.std.specs.Prelude.{◌≡◌, ◌≢◌, ◌⊎◌, ℕ, ◌-◌, ◌<◌, List, length, Some, slice_get}
use Rattle.aig_parts.specs.declared.ternary.Tern.{Tern}
use Rattle.aig_parts.specs.declared.ternary.Tern.TheVariants.{One}
use Rattle.aig_parts.specs.declared.latch.Latch.{Latch}
use Rattle.aig_parts.specs.declared.raw.Raw.{Raw}
use Rattle.aig_base.specs.Completion.{IsCompletion}
use Rattle.aig_base.specs.Runs.{Allows, ReachesProperty}
use Rattle.aig_base.specs.Value.{Value}
use Rattle.aig_sim.specs.declared.witness.verdict.Verdict.{Verdict}
use Rattle.aig_sim.specs.declared.witness.verdict.Verdict.TheVariants as verdict
use Rattle.aig_sim.specs.WitnessText.{IsAdmitted, SpellsWitness, Witness}

-- latch p starts at a value that its reset does not allow
pub record StartsWrong (raw : Raw) (start : List Tern) (p : ℕ) : Type 0 where
  pub latch : Latch
  pub value : Tern
  pub latch_is : slice_get raw.latches p ≡ Some latch
  pub value_is : slice_get start p ≡ Some value
  pub wrong : Allows latch value → ⊥

-- at frame t of the witness's run the literal at position p is not 1
pub record IsNotOne (raw : Raw) (w : Witness) (t : ℕ) (literals : List ℕ) (p : ℕ) : Type 0 where
  pub literal : ℕ
  pub value : Tern
  pub literal_is : slice_get literals p ≡ Some literal
  pub value_is : Value raw w.start w.rows t literal value
  pub not_one : value ≢ One

-- the verdict applies
abbrev pub VerdictApplies : Raw → Witness → Verdict → Type 0
VerdictApplies raw w (verdict.Initial p) = StartsWrong raw w.start p
VerdictApplies raw w (verdict.Constraint t p) = (t < length w.rows) × IsNotOne raw w t raw.constraints p
VerdictApplies raw w verdict.NotBad = IsNotOne raw w (length w.rows - 1) raw.bad w.property
VerdictApplies raw w verdict.Confirmed = Unit {0}

-- the order in which the kinds of verdicts are tried
abbrev pub verdict_order : Verdict → ℕ
verdict_order (verdict.Initial p) = 0
verdict_order (verdict.Constraint t p) = 1
verdict_order verdict.NotBad = 2
verdict_order verdict.Confirmed = 3

-- the order of the verdicts: latch by latch; frame by frame, and in a frame constraint by constraint; the property
abbrev pub IsBefore : Verdict → Verdict → Type 0
IsBefore (verdict.Initial p) (verdict.Initial q) = p < q
IsBefore (verdict.Constraint t p) (verdict.Constraint u q) = (t < u) ⊎ ((t ≡ u) × (p < q))
IsBefore u v = verdict_order u < verdict_order v

-- the verdict is the first that applies
pub record IsVerdict (raw : Raw) (w : Witness) (v : Verdict) : Type 0 where
  pub applies : VerdictApplies raw w v
  pub first : (u : Verdict) → IsBefore u v → VerdictApplies raw w u → ⊥

-- whatever the x of the witness turn out to be, its run reaches the property at the last frame
abbrev pub IsConfirmed : Raw → Witness → Type 0
IsConfirmed raw w = (start : List Tern) (rows : List (List Tern)) → IsCompletion w.start w.rows start rows
    → ReachesProperty raw start rows (length rows - 1) w.property

-- The text is an admitted witness of the circuit, which shows this verdict. One that is confirmed reaches the bad state
-- whatever its x turn out to be.
pub record ShowsVerdict (raw : Raw) (text : List ℕ) (shown : Verdict) : Type 0 where
  pub witness : Witness
  pub text_is : SpellsWitness raw text witness
  pub admitted : IsAdmitted raw witness
  pub verdict_is : IsVerdict raw witness shown
  pub confirmed : shown ≡ verdict.Confirmed → IsConfirmed raw witness
