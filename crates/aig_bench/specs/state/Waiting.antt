-- Which variables wait, the chains in which they stand, and what an event looks at of a variable.
use Rattle.std.specs.Prelude.{◌≡◌, ℕ, ◌+◌, Bool, not, nat_eq, List, length, map, Some, slice_get}
use Rattle.aig_parts.specs.declared.gate.Gate.{Gate}
use Rattle.aig_parts.specs.declared.raw.Raw.{Raw}
use Rattle.aig_parts.specs.Literal.{variable}
use Rattle.aig_bench.specs.declared.propagate.waiting.EventSlot.{EventSlot}

-- two right sides
pub record Sides : Type 0 where
  pub rhs0 : ℕ
  pub rhs1 : ℕ

-- for each variable whether it waits, the next one of its chain, its level and the right sides of its gate; whether
-- there is room for one more
pub record WaitingVariables : Type 0 where
  pub items : List Bool
  pub next : List ℕ
  pub levels : List ℕ
  pub sides : List Sides
  pub room : Bool

-- what stands for a variable that does not wait, in place of the next one
abbrev pub idle : ℕ
idle = 4294967295

-- the variable that has this next one waits
abbrev pub is_waiting : ℕ → Bool
is_waiting n = not (nat_eq n idle)

abbrev pub marks_of : List ℕ → List Bool
marks_of next = map is_waiting next

abbrev pub next_of : EventSlot → ℕ
next_of s = s.next

abbrev pub level_of : EventSlot → ℕ
level_of s = s.level

abbrev pub sides_in : EventSlot → Sides
sides_in s = record { rhs0 = s.rhs0; rhs1 = s.rhs1 }

-- what contracts see of slots
abbrev pub view_of : List EventSlot → Bool → WaitingVariables
view_of slots room = record {
  items = marks_of (map next_of slots);
  next = map next_of slots;
  levels = map level_of slots;
  sides = map sides_in slots;
  room = room;
}

-- the right sides of a gate
abbrev pub sides_of : Gate → Sides
sides_of g = record { rhs0 = g.rhs0; rhs1 = g.rhs1 }

-- of these sides, one pair for each variable, the variable of each gate has the gate's
pub record HaveSides (raw : Raw) (sides : List Sides) : Type 0 where
  pub size : length sides ≡ raw.max_var + 1
  pub each : (q : ℕ) (g : Gate) → slice_get raw.gates q ≡ Some g → slice_get sides (variable g.lhs) ≡ Some (sides_of g)
