-- The search for the grounded variables, by marks.
use Rattle.std.specs.Prelude.{◌≡◌, ◌↔◌, ◌⊎◌, ℕ, ◌+◌, ◌/◌, ◌<◌, List, [], ◌∷◌, length, Bool, true, not, count_by, All}
use Rattle.std.specs.Prelude.{◌≤◌, Some, Contains, slice_get, slice_index}
use Rattle.std.specs.List.{flat_map}
use Rattle.aig_parts.specs.declared.gate.Gate.{Gate}
use Rattle.aig_parts.specs.declared.raw.Raw.{Raw}
use Rattle.aig_parts.specs.Formed.{limit}
use Rattle.aig_parts.specs.Literal.{variable}
use Rattle.aig_base.specs.Grounded.{Grounded, Level}
use Rattle.aig_base.specs.state.KeyChains.{LeadsTo}

abbrev pub IsMarked : List Bool → ℕ → Type 0
IsMarked marks v = slice_get marks v ≡ Some true

-- a mark for each variable: whether it is grounded
pub record AreGroundedMarks (raw : Raw) (marks : List Bool) : Type 0 where
  pub size : length marks ≡ raw.max_var + 1
  pub each : (v : ℕ) → IsMarked marks v ↔ Grounded raw v

-- the three variables of a gate are below a number
pub record IsGateBelow (n : ℕ) (g : Gate) : Type 0 where
  pub lhs : variable g.lhs < n
  pub rhs0 : variable g.rhs0 < n
  pub rhs1 : variable g.rhs1 < n

-- the variables of the right sides, two a gate
abbrev pub sides : List Gate → List ℕ
sides gates = flat_map (λ g. variable g.rhs0 ∷ variable g.rhs1 ∷ []) gates

-- how many steps are left: each variable that is not marked may still be, and each pending one is to be taken
abbrev pub steps_left : List Bool → List ℕ → ℕ
steps_left marks pending = count_by not marks + length pending

-- the marked variables, all of them pending, are these
pub record AreStarted (done : List ℕ) (marks : List Bool) (pending : List ℕ) : Type 0 where
  pub each : (v : ℕ) → IsMarked marks v ↔ Contains done v
  pub listed : (v : ℕ) → IsMarked marks v ↔ Contains pending v

-- a variable is marked, and pending unless it was marked already
pub record AddsMark (v : ℕ) (marks : List Bool) (pending : List ℕ) (marks' : List Bool)
    (pending' : List ℕ) : Type 0 where
  pub size : length marks' ≡ length marks
  pub steps : steps_left marks' pending' ≡ steps_left marks pending
  pub marked : IsMarked marks' v
  pub kept : (u : ℕ) → IsMarked marks u → IsMarked marks' u
  pub new : (u : ℕ) → IsMarked marks' u → IsMarked marks u ⊎ ((u ≡ v) × Contains pending' u)
  pub listed : (u : ℕ) → Contains pending u → Contains pending' u
  pub new_listed : (u : ℕ) → Contains pending' u → Contains pending u ⊎ (u ≡ v)

-- marks are only added, and as many steps are left
pub record AddsMarks (marks : List Bool) (pending : List ℕ) (marks' : List Bool) (pending' : List ℕ) : Type 0 where
  pub size : length marks' ≡ length marks
  pub steps : steps_left marks' pending' ≡ steps_left marks pending
  pub kept : (u : ℕ) → IsMarked marks u → IsMarked marks' u
  pub below : All (λ v. v < length marks) pending → All (λ v. v < length marks') pending'

-- gate q reads a variable whose readers are still to be visited, from this link on
abbrev pub IsQueuedFrom : List ℕ → ℕ → ℕ → Type 0
IsQueuedFrom next link q = (o : ℕ) × LeadsTo next link o × (o / 2 ≡ q)

-- Marked variables have their level, and pending ones are marked. A gate whose two right sides are marked is marked,
-- unless one of them is pending or the gate waits at this link.
pub record IsMarking (raw : Raw) (next : List ℕ) (link : ℕ) (marks : List Bool)
    (pending levels : List ℕ) : Type 0 where
  pub low : (v n : ℕ) → Level raw v n → n ≤ limit
  pub size : length levels ≡ length marks
  pub each : (v : ℕ) → IsMarked marks v → Level raw v (slice_index levels v)
  pub marked : (v : ℕ) → Contains pending v → IsMarked marks v
  pub closed : (q : ℕ) (g : Gate) → slice_get raw.gates q ≡ Some g
      → IsMarked marks (variable g.rhs0) → IsMarked marks (variable g.rhs1)
      → IsMarked marks (variable g.lhs)
      ⊎ (Contains pending (variable g.rhs0) ⊎ (Contains pending (variable g.rhs1) ⊎ IsQueuedFrom next link q))
