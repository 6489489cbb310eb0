-- What the formulas ask of a circuit (AIGER 1.9, bad state properties and invariant constraints): some assignment
-- satisfies the formula exactly where there is such a run. Unknown values are our own choice.
-- Examples: the start `1` and the row `0` reach literal 4, and are a witness of one frame; without constraints there is
-- one for each k; the start `1` and the row `0` break the step of 0 frames; the start `1` of a latch with that reset,
-- and two rows, disprove the induction over one frame; for the step of one frame of the example, variables 1 and 2 are
-- the two rows, and variable 3 is the start.
use Rattle.std.specs.Prelude.{◌≡◌, ◌⊎◌, ℕ, ◌+◌, ◌-◌, ◌<◌, ◌≤◌, Bool, List, length, Contains, Some, slice_get, All}
use Rattle.aig_parts.specs.declared.raw.Raw.{Raw}
use Rattle.aig_parts.specs.declared.ternary.Tern.{Tern}
use Rattle.aig_parts.specs.declared.ternary.Tern.TheVariants.{One}
use Rattle.aig_base.specs.Runs.{IsAllowed, ReachesBad, ReachesProperty}
use Rattle.aig_base.specs.Value.{Fits, Value}
use Rattle.aig_sat.specs.checker.Clause.{Satisfies}
use Rattle.aig_cnf.specs.Formula.{formula_of}
use Rattle.aig_cnf.specs.Query.{from_any_state, induction, step, within}
use Rattle.aig_refute.specs.Models.{AreKnown, values_of}
use Rattle.aig_refute.specs.UnrolledWitness.{rows_in, start_in, witness_in, IsConfirmedWithin}
use Rattle.aig_sim.specs.WitnessText.{Witness}

-- some assignment satisfies the clauses
abbrev pub IsSatisfiable : List (List ℕ) → Type 0
IsSatisfiable clauses = (values : ℕ → Bool) × Satisfies values clauses

-- some run from a start that the resets allow, unknown values included, reaches property p at one of the first k frames
abbrev pub IsReachedWithin : Raw → ℕ → ℕ → Type 0
IsReachedWithin raw k p =
    (start : List Tern) × (rows : List (List Tern)) × (t : ℕ) × (t < k) × ReachesProperty raw start rows t p

-- some such run reaches property p at frame t
abbrev pub IsReachedAt : Raw → ℕ → ℕ → Type 0
IsReachedAt raw t p = (start : List Tern) × (rows : List (List Tern)) × ReachesProperty raw start rows t p

-- the run fits the circuit, starts as the resets allow, and every constraint is 1 at each of its first k frames
abbrev pub KeepsConstraints : Raw → ℕ → List Tern → List (List Tern) → Type 0
KeepsConstraints raw k start rows =
    Fits raw start rows × IsAllowed raw start × (k ≤ length rows)
    × ((t c : ℕ) → t < k → Contains raw.constraints c → Value raw start rows t c One)

-- there is one, unknown values included
abbrev pub HasRun : Raw → ℕ → Type 0
HasRun raw k = (start : List Tern) × (rows : List (List Tern)) × KeepsConstraints raw k start rows

-- no value of a run is unknown
pub record IsKnownRun (start : List Tern) (rows : List (List Tern)) : Type 0 where
  pub start_known : AreKnown start
  pub rows_known : All AreKnown rows

-- a confirmed witness of property p, of k frames at most, without unknown values
pub record IsKnownWitness (raw : Raw) (k p : ℕ) (w : Witness) : Type 0 where
  pub confirmed : IsConfirmedWithin raw k w
  pub property_is : w.property ≡ p
  pub known : IsKnownRun w.start w.rows

-- there is one
abbrev pub HasKnownWitness : Raw → ℕ → ℕ → Type 0
HasKnownWitness raw k p = (w : Witness) × IsKnownWitness raw k p w

-- A run of k + 1 frames, without unknown values, that reaches property p at frame k and at no frame before. It may
-- start in any state, whatever the resets are. With unknown values, a bad literal that is 1 whatever they are may be x.
pub record BreaksStep (raw : Raw) (k p : ℕ) (start : List Tern) (rows : List (List Tern)) : Type 0 where
  pub fits : Fits raw start rows
  pub known : IsKnownRun start rows
  pub frames : length rows ≡ k + 1
  pub bad : ℕ
  pub bad_is : slice_get raw.bad p ≡ Some bad
  pub reached : ReachesBad raw start rows k bad
  pub none_before : (t : ℕ) → t < k → ReachesBad raw start rows t bad → ⊥

-- there is one: the step of an induction over k frames fails
abbrev pub HasBrokenStep : Raw → ℕ → ℕ → Type 0
HasBrokenStep raw k p = (start : List Tern) × (rows : List (List Tern)) × BreaksStep raw k p start rows

-- A run of k + 1 frames, without unknown values, that disproves an induction over k frames: from a start that the
-- resets allow it reaches property p at one of the first k frames, or it breaks the step.
pub record DisprovesInduction (raw : Raw) (k p : ℕ) (start : List Tern) (rows : List (List Tern)) : Type 0 where
  pub known : IsKnownRun start rows
  pub frames : length rows ≡ k + 1
  pub fails : ((t : ℕ) × (t < k) × ReachesProperty raw start rows t p) ⊎ BreaksStep raw k p start rows

-- the start and the rows that an assignment gives the inputs of the circuit unrolled for k + 1 frames from any state
abbrev pub step_row : Raw → ℕ → (ℕ → Bool) → List Tern
step_row raw k values = values_of (from_any_state raw) (k + 1) values

abbrev pub step_start : Raw → ℕ → (ℕ → Bool) → List Tern
step_start raw k values = start_in (from_any_state raw) (k + 1) (step_row raw k values)

abbrev pub step_rows : Raw → ℕ → (ℕ → Bool) → List (List Tern)
step_rows raw k values = rows_in raw (k + 1) (step_row raw k values)

-- some assignment satisfies the formula of the witness' property within k frames, and names the witness: its start, and
-- its rows as far as they go
abbrev pub IsNamedWitness : Raw → List ℕ → ℕ → Witness → Type 0
IsNamedWitness raw order k w =
    (values : ℕ → Bool) × Satisfies values (formula_of raw order (within k w.property)).clauses
    × (witness_in raw k (length w.rows - 1) w.property (values_of raw k values) ≡ w)

-- some assignment satisfies the formula of the induction, and names the run
abbrev pub IsNamedInduction : Raw → List ℕ → ℕ → ℕ → List Tern → List (List Tern) → Type 0
IsNamedInduction raw order k p start rows =
    (values : ℕ → Bool) × Satisfies values (formula_of raw order (induction k p)).clauses
    × (step_start raw k values ≡ start) × (step_rows raw k values ≡ rows)

-- some assignment satisfies the formula of the step, and names the run
abbrev pub IsNamedStep : Raw → List ℕ → ℕ → ℕ → List Tern → List (List Tern) → Type 0
IsNamedStep raw order k p start rows =
    (values : ℕ → Bool) × Satisfies values (formula_of raw order (step k p)).clauses
    × (step_start raw k values ≡ start) × (step_rows raw k values ≡ rows)
