-- The table of definitions while it is filled.
use Rattle.std.specs.Prelude.{◌≡◌, ℕ, ◌+◌, List, length, Option, Some, None, slice_get}
use Rattle.aig_base.specs.FirstFault.{IsLeast}
use Rattle.aig_base.specs.Sound.{StandsTwice}
use Rattle.aig_base.specs.state.Definitions.{IsNumberOf}

-- the least variable that stands twice, or none where each stands once
abbrev pub IsLeastTwice : List ℕ → Option ℕ → Type 0
IsLeastTwice xs None = (v : ℕ) → StandsTwice xs v → ⊥
IsLeastTwice xs (Some v) = IsLeast (StandsTwice xs) v

-- the table and the least variable that was entered again, once these variables are entered in this order
pub record AreEntries (max_var : ℕ) (done table : List ℕ) (again : Option ℕ) : Type 0 where
  pub size : length table ≡ max_var + 1
  pub numbers : (v n : ℕ) → slice_get table v ≡ Some n → IsNumberOf done v n
  pub twice : IsLeastTwice done again
