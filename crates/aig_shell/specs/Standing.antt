-- What `check` says of a property (our own choice).
-- Example: `reached at 10`.
use Rattle.std.specs.Prelude.{◌≡◌, ◌≢◌, ℕ, ◌<◌, List, ◌++◌, length, codes, decimal, Some, slice_get}
use Rattle.aig_parts.specs.declared.raw.Raw.{Raw}
use Rattle.aig_parts.specs.declared.ternary.Tern.{Tern}
use Rattle.aig_parts.specs.declared.ternary.Tern.TheVariants.{One, X}
use Rattle.aig_base.specs.Value.{start_of}
use Rattle.aig_bench.specs.BenchState.{CircuitAndRows, HasValue}
use Rattle.aig_sim.specs.Reached.{IsFirstReached, ReachesNone}
use Rattle.aig_sim.specs.Verdict.{StartsWrong}
use Rattle.aig_shell.specs.declared.answers.check.Standing.{Standing}
use Rattle.aig_shell.specs.declared.answers.check.Standing.TheVariants.{Reached, NoRun, Unknown, Never}

-- the literal has the value at this frame, and at none before
pub record IsFirstAt (p : CircuitAndRows) (l : ℕ) (w : Tern) (t : ℕ) : Type 0 where
  pub frame : t < length p.rows
  pub value : HasValue p t l w
  pub before : (u : ℕ) → u < t → HasValue p u l w → ⊥

-- it has the value at no frame
abbrev pub IsNever : CircuitAndRows → ℕ → Tern → Type 0
IsNever p l w = (t : ℕ) → t < length p.rows → HasValue p t l w → ⊥

-- constraint k is not 1 at frame t
pub record IsBroken (p : CircuitAndRows) (t k : ℕ) (w : Tern) : Type 0 where
  pub literal : ℕ
  pub literal_is : slice_get p.circuit.constraints k ≡ Some literal
  pub value_is : HasValue p t literal w
  pub not_one : w ≢ One

-- the first n constraints are 1 at this frame
abbrev pub HoldBelow : CircuitAndRows → ℕ → ℕ → Type 0
HoldBelow p t n = (k l : ℕ) → k < n → slice_get p.circuit.constraints k ≡ Some l → HasValue p t l One

-- all constraints are 1 at this frame
abbrev pub HoldAt : CircuitAndRows → ℕ → Type 0
HoldAt p t = (k l : ℕ) → slice_get p.circuit.constraints k ≡ Some l → HasValue p t l One

-- all constraints are 1 at the frames before this one
abbrev pub HoldBefore : CircuitAndRows → ℕ → Type 0
HoldBefore p t = (u : ℕ) → u < t → HoldAt p u

-- constraint k is the first that is not 1 at this frame, and all are 1 before
pub record IsFirstBroken (p : CircuitAndRows) (t k : ℕ) (w : Tern) : Type 0 where
  pub frame : t < length p.rows
  pub broken : IsBroken p t k w
  pub below : HoldBelow p t k
  pub before : HoldBefore p t

-- each latch starts as its reset allows
abbrev pub StartsRight : Raw → List Tern → Type 0
StartsRight raw start = (k : ℕ) → StartsWrong raw start k → ⊥

-- What is so of property k, which has this literal. The bench's circuit has the run's start as its resets, the circuit
-- those of its file. The property is reached at a frame; it is 1 there first, but in no run of the circuit; it is x
-- there first, and nowhere
-- 1; or it is 0.
abbrev pub IsStanding : Raw → CircuitAndRows → ℕ → ℕ → Standing → Type 0
IsStanding raw p k l (Reached t) = IsFirstReached raw (start_of p.circuit) p.rows (Some k) t k
IsStanding raw p k l (NoRun t) = IsFirstAt p l One t × ReachesNone raw (start_of p.circuit) p.rows (Some k)
IsStanding raw p k l (Unknown t) = IsNever p l One × IsFirstAt p l X t
IsStanding raw p k l Never = IsNever p l One × IsNever p l X

-- how it is said, after the property's name
abbrev pub standing_text : Standing → List ℕ
standing_text (Reached t) = codes "reached at " ++ decimal t
standing_text (NoRun t) = codes "1 at " ++ (decimal t ++ codes ", not a run")
standing_text (Unknown t) = codes "not reached, x at " ++ decimal t
standing_text Never = codes "not reached"
