-- A circuit that is cut: some latches and gates of it are driven by new inputs, some latches may start at any value, and
-- some constraints are not demanded (our own choice). All sections stay in their order, and each literal stays.
use Rattle.std.specs.Prelude.{◌≡◌, ◌⊎◌, ℕ, List, ◌++◌, length, Some, slice_get, All, Contains}
use Rattle.aig_parts.specs.declared.gate.Gate.{Gate}
use Rattle.aig_parts.specs.declared.latch.Latch.{Latch}
use Rattle.aig_parts.specs.declared.raw.Raw.{Raw}
use Rattle.aig_parts.specs.Literal.{variable}
use Rattle.aig_base.specs.Sections.{IsDefined}

-- new input number k stands for the literal m
abbrev pub StandsFor : List ℕ → List ℕ → ℕ → ℕ → Type 0
StandsFor new meant l m = (k : ℕ) × (slice_get new k ≡ Some l) × (slice_get meant k ≡ Some m)

-- the latch, with its next state or with a new input in place of it, and with its reset or with none
pub record IsCutLatch (new meant : List ℕ) (x y : Latch) : Type 0 where
  pub lit : y.lit ≡ x.lit
  pub next : (y.next ≡ x.next) ⊎ StandsFor new meant y.next x.next
  pub reset : (y.reset ≡ x.reset) ⊎ (y.reset ≡ y.lit)

-- the gate, or the AND of a new input and 1
pub record IsCutGate (new meant : List ℕ) (g h : Gate) : Type 0 where
  pub lhs : h.lhs ≡ g.lhs
  pub sides : ((h.rhs0 ≡ g.rhs0) × (h.rhs1 ≡ g.rhs1)) ⊎ (StandsFor new meant h.rhs0 g.lhs × (h.rhs1 ≡ 1))

-- `new` are the new inputs, and `meant` the literals that they stand for in a run of the circuit
pub record IsCut (raw x : Raw) : Type 0 where
  pub new : List ℕ
  pub meant : List ℕ
  pub paired : length meant ≡ length new
  pub defined : All (λ l. IsDefined raw (variable l)) meant
  pub inputs_are : x.inputs ≡ raw.inputs ++ new
  pub latches_many : length x.latches ≡ length raw.latches
  pub latches_are : (p : ℕ) (y z : Latch) → slice_get raw.latches p ≡ Some y → slice_get x.latches p ≡ Some z
      → IsCutLatch new meant y z
  pub gates_are : (q : ℕ) (g : Gate) → slice_get raw.gates q ≡ Some g
      → (h : Gate) × (slice_get x.gates q ≡ Some h) × IsCutGate new meant g h
  pub bad_are : x.bad ≡ raw.bad
  pub constraints_are : (c : ℕ) → Contains x.constraints c → (c ≡ 1) ⊎ Contains raw.constraints c
