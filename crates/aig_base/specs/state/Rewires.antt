-- Levels that are renewed in place where a gate gets other right sides: the search for a cycle, and the pass over the
-- fan-out of the gate, in the order of the old levels.
-- Example: in `examples/two_gates.aag` the fan-out of variable 3 is 3 and 4.
use Rattle.std.specs.Prelude.{◌≡◌, ◌≢◌, ◌⊎◌, ℕ, ◌+◌, ◌<◌, ◌≤◌, List, false, not, length, count_by, Some, Contains}
use Rattle.std.specs.Prelude.{slice_get, slice_set, slice_index, slice_index_or, if◌then◌else◌}
use Rattle.aig_parts.specs.declared.gate.Gate.{Gate}
use Rattle.aig_parts.specs.declared.raw.Raw.{Raw}
use Rattle.aig_base.specs.declared.level.visits.Visits.{Visits}
use Rattle.aig_base.specs.Changes.{with_gate}
use Rattle.aig_base.specs.Grounded.{IsSource, Level}
use Rattle.aig_parts.specs.Literal.{variable}
use Rattle.aig_base.specs.Readers.{IsSide}
use Rattle.aig_base.specs.Sections.{IsDefined, IsLeftSide}
use Rattle.aig_base.specs.state.Queue.{Queued, copies, entry}
use Rattle.aig_base.specs.state.Visits.{IsVisited, VisitsAmong}

-- v is t, or a gate that reads what is in the fan-out of t
pub data IsInFanOut (raw : Raw) (t : ℕ) : ℕ → Type 0 where
  self : IsInFanOut raw t t
  reader : (q : ℕ) (g : Gate) (u : ℕ) → slice_get raw.gates q ≡ Some g → IsSide g u → IsInFanOut raw t u
      → IsInFanOut raw t (variable g.lhs)

-- a gate of the circuit may get these right sides: they are defined, and not in the fan-out of the gate
pub record IsRewire (raw : Raw) (g : Gate) : Type 0 where
  pub gate : IsLeftSide raw g.lhs
  pub defined0 : IsDefined raw (variable g.rhs0)
  pub defined1 : IsDefined raw (variable g.rhs1)
  pub apart0 : IsInFanOut raw (variable g.lhs) (variable g.rhs0) → ⊥
  pub apart1 : IsInFanOut raw (variable g.lhs) (variable g.rhs1) → ⊥

-- The search up from t for x and y, where only readers below a level are met. What was met is in the fan-out of t;
-- the readers of a variable that was met and does not wait were looked at: none is x or y, and those below the bound
-- were met.
pub record IsSearchUp (raw : Raw) (t x y bound : ℕ) (met queued : ℕ → Type 0) : Type 0 where
  pub start : met t
  pub reached : (v : ℕ) → met v → IsInFanOut raw t v
  pub looked : (q : ℕ) (g : Gate) (u : ℕ) → slice_get raw.gates q ≡ Some g → IsSide g u → met u
      → queued u
      ⊎ ((variable g.lhs ≢ x) × (variable g.lhs ≢ y)
      × ((m : ℕ) → Level raw (variable g.lhs) m → m < bound → met (variable g.lhs)))

-- none of these variables is x or y, and those with levels below the bound were visited
pub record LooksAt (xs levels : List ℕ) (x y bound : ℕ) (s : Visits) : Type 0 where
  pub other : (v : ℕ) → Contains xs v → (v ≢ x) × (v ≢ y)
  pub below : (v : ℕ) → Contains xs v → slice_index levels v < bound → IsVisited s v

-- x is not in the fan-out of t, unless it is t or its level is over the bound
abbrev pub IsApart : Raw → ℕ → ℕ → ℕ → Type 0
IsApart raw t bound x = (n : ℕ) → x ≢ t → Level raw x n → n ≤ bound → IsInFanOut raw t x → ⊥

-- the row has the level that the variable has in these parts
pub record HoldsLevel (raw : Raw) (row : List ℕ) (v : ℕ) : Type 0 where
  pub level : ℕ
  pub has : Level raw v level
  pub cell : slice_get row v ≡ Some level

-- the gate of v reads a variable whose level is known to have changed: t, or one that was evaluated
abbrev pub NeedsLevel : Raw → ℕ → List ℕ → List ℕ → (ℕ → Type 0) → ℕ → Type 0
NeedsLevel raw t old row done v =
    (q : ℕ) × (g : Gate) × (u : ℕ) × (slice_get raw.gates q ≡ Some g) × IsSide g u × (variable g.lhs ≡ v)
    × ((u ≡ t) ⊎ done u) × (slice_get row u ≢ slice_get old u)

-- The pass, once the changed gate t has its new level. Some gates were evaluated (done), some wait, and the others have
-- their levels of before. A gate with a side whose level is known to have changed was evaluated or waits, and no other
-- does. Levels below are those of before.
pub record Renewing (raw : Raw) (lhs r0 r1 : ℕ) (old row : List ℕ) (queued done : ℕ → Type 0) : Type 0 where
  pub size : length row ≡ length old
  pub changed : HoldsLevel (with_gate raw lhs r0 r1) row (variable lhs)
  pub sources : (v : ℕ) → IsSource raw v → slice_get row v ≡ slice_get old v
  pub evaluated : (v : ℕ) → done v → HoldsLevel (with_gate raw lhs r0 r1) row v
  pub others : (q : ℕ) (g : Gate) → slice_get raw.gates q ≡ Some g → variable g.lhs ≢ variable lhs
      → (done (variable g.lhs) → ⊥) → slice_get row (variable g.lhs) ≡ slice_get old (variable g.lhs)
  pub linked : (q : ℕ) (g : Gate) (u : ℕ) → slice_get raw.gates q ≡ Some g → variable g.lhs ≢ variable lhs → IsSide g u
      → (u ≡ variable lhs) ⊎ done u → slice_get row u ≢ slice_get old u → queued (variable g.lhs)
      ⊎ done (variable g.lhs)
  pub touched : (v : ℕ) → queued v ⊎ done v → NeedsLevel raw (variable lhs) old row done v
  pub fresh : (v : ℕ) → queued v → done v → ⊥
  pub over : (v m k : ℕ) → queued v → Level raw v m → Level raw (variable lhs) k → k < m
  pub order : (v u m n : ℕ) → done v → queued u → Level raw v m → Level raw u n → m ≤ n

-- One step of the pass: the gate of w got a level, waits no more, and where that level is another the readers of w
-- wait.
pub record RenewsAt (raw : Raw) (w level : ℕ) (row row' : List ℕ) (queued queued' : ℕ → Type 0) : Type 0 where
  pub size : length row' ≡ length row
  pub cell : slice_get row' w ≡ Some level
  pub same : (v : ℕ) → v ≢ w → slice_get row' v ≡ slice_get row v
  pub keeps : (v : ℕ) → queued v → (v ≡ w) ⊎ queued' v
  pub readers : slice_get row w ≢ Some level
      → (q : ℕ) (g : Gate) → slice_get raw.gates q ≡ Some g → IsSide g w → queued' (variable g.lhs)
  pub new : (v : ℕ) → queued' v
      → (queued v × (v ≢ w))
      ⊎ ((slice_get row w ≢ Some level)
      × ((q : ℕ) × (g : Gate) × (slice_get raw.gates q ≡ Some g) × IsSide g w × (variable g.lhs ≡ v)))

-- 1 where the variable was visited, else 0
abbrev pub mark : Visits → ℕ → ℕ
mark s v = if slice_index_or s.met.items v false then 1 else 0

-- each of these variables was visited, and waits with its level if it was not visited before
pub record Queues (xs levels : List ℕ) (s s' : Visits) (queue queue' : Queued) : Type 0 where
  pub among : VisitsAmong xs s s'
  pub all : (v : ℕ) → Contains xs v → IsVisited s' v
  pub counts : (v : ℕ) → copies queue' v + mark s v ≡ copies queue v + mark s' v
  pub listed : (e : ℕ × ℕ) → Contains queue'.entries e
      → Contains queue.entries e
      ⊎ ((e ≡ entry (slice_index levels e.1) e.1) × Contains xs e.1 × (IsVisited s e.1 → ⊥))
  pub left : length queue'.entries + count_by not s'.met.items ≡ length queue.entries + count_by not s.met.items
  pub capacity : queue.capacity ≤ queue'.capacity

-- the variable got this level, and where it had another its readers are queued
pub record SetsLevel (v level : ℕ) (readers row row' : List ℕ) (s s' : Visits) (queue queue' : Queued) : Type 0 where
  pub cells : row' ≡ slice_set row v level
  pub same : slice_get row v ≡ Some level → (s' ≡ s) × (queue' ≡ queue)
  pub other : slice_get row v ≢ Some level → Queues readers row' s s' queue queue'
