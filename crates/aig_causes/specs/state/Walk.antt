-- A walk from literals to the inputs and latches that they have their values by.
use Rattle.std.specs.Prelude.{◌≡◌, ◌⊎◌, ℕ, ◌+◌, ◌*◌, ◌<◌, ◌≤◌, List, ◌++◌, length, count_by, not, nat_eq, All, Contains}
use Rattle.std.specs.Prelude.{Some, IfSome, slice_get, [], ◌∷◌}
use Rattle.aig_parts.specs.declared.gate.Gate.{Gate}
use Rattle.aig_parts.specs.declared.raw.Raw.{Raw}
use Rattle.aig_parts.specs.declared.ternary.Tern.{Tern}
use Rattle.aig_parts.specs.declared.ternary.Tern.TheVariants.{Zero, One, X}
use Rattle.aig_parts.specs.Literal.{variable}
use Rattle.aig_parts.specs.Ternary.{kleene_and}
use Rattle.aig_base.specs.Definition.{Defines}
use Rattle.aig_base.specs.declared.circuit.definition.Definition.{Definition}
use Rattle.aig_base.specs.declared.circuit.definition.Definition.TheVariants as definition
use Rattle.aig_bench.specs.BenchState.{CircuitAndRows}
use Rattle.aig_values.specs.Cells.{HasVariablesBelow}
use Rattle.aig_causes.specs.declared.sides.Sides.{Sides}
use Rattle.aig_causes.specs.declared.sides.Sides.TheVariants as sides
use Rattle.aig_causes.specs.declared.walker.Walker.{Walker}
use Rattle.aig_causes.specs.Causes.{Has, Moment}
use Rattle.aig_causes.specs.Causes as causes

-- the last walk that was at each variable, the number of this walk, the variables that are queued, and what was found
pub record WalkState : Type 0 where
  pub marks : List ℕ
  pub number : ℕ
  pub todo : List ℕ
  pub found : causes.Sources

-- this walk was at the variable
abbrev pub IsVisited : List ℕ → ℕ → ℕ → Type 0
IsVisited marks number v = slice_get marks v ≡ Some number

-- this walk was at the variable, or will be
abbrev pub IsReached : WalkState → ℕ → Type 0
IsReached s v = IsVisited s.marks s.number v ⊎ Contains s.todo v

-- by its value, which sides of a gate with these values have to be reached: both where it is 1, one that is 0 where it
-- is 0, and each that is x where it is x
abbrev pub Needs : (ℕ → Type 0) → Gate → Tern → Tern → Tern → Type 0
Needs Reached g a b Zero = ((a ≡ Zero) × Reached (variable g.rhs0)) ⊎ ((b ≡ Zero) × Reached (variable g.rhs1))
Needs Reached g a b One = Reached (variable g.rhs0) × Reached (variable g.rhs1)
Needs Reached g a b X = (a ≡ X → Reached (variable g.rhs0)) × (b ≡ X → Reached (variable g.rhs1))

pub record HaveReached (raw : Raw) (m : Moment) (Reached : ℕ → Type 0) (g : Gate) : Type 0 where
  pub needs : (a b : Tern) → Has raw m g.rhs0 a → Has raw m g.rhs1 b → Needs Reached g a b (kleene_and a b)

-- the variable is that of one of these sides
abbrev pub IsSide : Gate → Sides → ℕ → Type 0
IsSide g sides.First v = v ≡ variable g.rhs0
IsSide g sides.Second v = v ≡ variable g.rhs1
IsSide g sides.Both v = (v ≡ variable g.rhs0) ⊎ (v ≡ variable g.rhs1)

-- what a visited variable has led to, by what defines it
abbrev pub HasLed : Raw → Moment → WalkState → Definition → Type 0
HasLed raw m s (definition.Input p) = Contains s.found.inputs p
HasLed raw m s (definition.Latch p) = Contains s.found.latches p
HasLed raw m s (definition.Gate q) = (g : Gate) → slice_get raw.gates q ≡ Some g → HaveReached raw m (IsReached s) g

-- in the midst of a walk
pub record IsWalk (raw : Raw) (m : Moment) (s : WalkState) : Type 0 where
  pub size : length s.marks ≡ raw.max_var + 1
  pub pending : (v : ℕ) → Contains s.todo v → v < length s.marks
  pub inputs : (p : ℕ) → Contains s.found.inputs p → p < length raw.inputs
  pub latches : (p : ℕ) → Contains s.found.latches p → p < length raw.latches
  pub led : (v : ℕ) (d : Definition) → IsVisited s.marks s.number v → Defines raw v d → HasLed raw m s d

-- how many steps are left at most: a visit queues two variables
abbrev pub steps_left : WalkState → ℕ
steps_left s = 3 * count_by (λ n. not (nat_eq n s.number)) s.marks + length s.todo

-- the walk went on
pub record GoesOn (raw : Raw) (m : Moment) (s s' : WalkState) : Type 0 where
  pub walk : IsWalk raw m s → IsWalk raw m s'
  pub reached : (v : ℕ) → IsReached s v → IsReached s' v

-- the variables of these sides, the last one to be visited first
abbrev pub queued : ℕ → ℕ → Sides → List ℕ
queued first second sides.First = first ∷ []
queued first second sides.Second = second ∷ []
queued first second sides.Both = second ∷ first ∷ []

-- one variable has led further
pub record Leads (raw : Raw) (m : Moment) (v : ℕ) (s s' : WalkState) : Type 0 where
  pub queued : List ℕ
  pub todo : s'.todo ≡ s.todo ++ queued
  pub few : length queued ≤ 2
  pub below : (u : ℕ) → Contains queued u → u ≤ raw.max_var
  pub inputs_kept : (p : ℕ) → Contains s.found.inputs p → Contains s'.found.inputs p
  pub latches_kept : (p : ℕ) → Contains s.found.latches p → Contains s'.found.latches p
  pub inputs : (p : ℕ) → Contains s'.found.inputs p → Contains s.found.inputs p ⊎ (p < length raw.inputs)
  pub latches : (p : ℕ) → Contains s'.found.latches p → Contains s.found.latches p ⊎ (p < length raw.latches)
  pub led : (d : Definition) → Defines raw v d → HasLed raw m s' d

-- no mark is of a later walk
abbrev pub AreEarlier : ℕ → List ℕ → Type 0
AreEarlier number marks = (v n : ℕ) → slice_get marks v ≡ Some n → n ≤ number

-- what a walker keeps from walk to walk
pub record IsWalker (w : Walker) : Type 0 where
  pub earlier : AreEarlier w.visited.number w.visited.marks.items
  pub weights : length w.weights.items ≡ length w.visited.marks.items
  pub gates : IfSome w.order (All (HasVariablesBelow (length w.visited.marks.items)))

-- it is for the circuit of the pair, which has such a frame
pub record IsWalkerAt (p : CircuitAndRows) (t : ℕ) (w : Walker) : Type 0 where
  pub frame : t < length p.rows
  pub walker : IsWalker w
  pub size : length w.visited.marks.items ≡ p.circuit.max_var + 1

-- the walker as a walk
abbrev pub walk_of : Walker → WalkState
walk_of w = record { marks = w.visited.marks.items; number = w.visited.number; todo = w.todo.items; found = w.found }

-- the walk before a variable was taken from what is queued
abbrev pub with_queued : WalkState → ℕ → WalkState
with_queued s v = record s { todo = s.todo ++ v ∷ [] }

-- a walk begins: each of these literals is queued
pub record Begins (literals : List ℕ) (s : WalkState) : Type 0 where
  pub none : (v : ℕ) → IsVisited s.marks s.number v → ⊥
  pub queued : (l : ℕ) → Contains literals l → Contains s.todo (variable l)
  pub only : (v : ℕ) → Contains s.todo v → (l : ℕ) × Contains literals l × (variable l ≡ v)
  pub found : s.found ≡ record { inputs = []; latches = [] }
