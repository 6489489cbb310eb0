-- The least key among those items of a list that are not as they should be.
use Rattle.std.specs.Prelude.{◌≡◌, ◌≢◌, ◌⊎◌, ℕ, ◌<◌, min, List, Bool, true, Option, Some, None, All, slice_get}
use Rattle.aig_parts.specs.declared.gate.Gate.{Gate}
use Rattle.aig_parts.specs.declared.latch.Latch.{Latch}
use Rattle.aig_parts.specs.declared.raw.Raw.{Raw}
use Rattle.aig_base.specs.Grounded.{Grounded}
use Rattle.aig_parts.specs.Literal.{variable}

-- an item with this key is not good
abbrev pub HasBad : {X : Type 0} → (X → Type 0) → (X → ℕ) → List X → ℕ → Type 0
HasBad {X} Good key xs v = (k : ℕ) × (x : X) × (slice_get xs k ≡ Some x) × (key x ≡ v) × (Good x → ⊥)

-- the least key of an item that is not good, or none where all are
abbrev pub IsLeastAmong : {X : Type 0} → (X → Type 0) → (X → ℕ) → List X → Option ℕ → Type 0
IsLeastAmong Good key xs None = All Good xs
IsLeastAmong Good key xs (Some v) = HasBad Good key xs v × All (λ x. key x < v → Good x) xs

-- the lesser number, where there is one
abbrev pub lesser : Option ℕ → Option ℕ → Option ℕ
lesser None b = b
lesser (Some v) None = Some v
lesser (Some v) (Some w) = Some (min v w)

-- the literal's variable is 0, or the table has the number of what defines it
abbrev pub IsKnownLiteral : List ℕ → ℕ → Type 0
IsKnownLiteral table l = (variable l ≡ 0) ⊎ ((n : ℕ) × (slice_get table (variable l) ≡ Some n) × (n ≢ 0))

-- the gate's variable is marked
abbrev pub IsMarkedGate : List Bool → Gate → Type 0
IsMarkedGate marks g = slice_get marks (variable g.lhs) ≡ Some true

-- the gate's variable is grounded
abbrev pub IsGroundedGate : Raw → Gate → Type 0
IsGroundedGate raw g = Grounded raw (variable g.lhs)

-- the gate reads smaller variables alone
abbrev pub ReadsSmaller : Gate → Type 0
ReadsSmaller g = (variable g.rhs0 < variable g.lhs) × (variable g.rhs1 < variable g.lhs)

abbrev pub gate_variable : Gate → ℕ
gate_variable g = variable g.lhs

abbrev pub latch_variable : Latch → ℕ
latch_variable x = variable x.lit
