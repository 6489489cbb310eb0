-- What makes parts a circuit (AIGER 1.0, ASCII format; AIGER 1.9, resets; that each used variable is
-- defined, and none twice, is our own choice).
-- Example: `examples/two_gates.aag` with the output 10 is not sound: 10 is over 9, its greatest literal.
use Rattle.std.specs.Prelude.{◌≡◌, ◌⊎◌, ℕ, ◌+◌, ◌*◌, ◌<◌, ◌≤◌, List, ◌++◌, map, All, Contains, Some, slice_get}
use Rattle.aig_parts.specs.declared.latch.Latch.{Latch}
use Rattle.aig_parts.specs.declared.raw.Raw.{Raw}
use Rattle.aig_parts.specs.Literal.{variable, IsEven}
use Rattle.aig_base.specs.Sections.{definitions, uses, IsDefined}

abbrev pub IsInRange : Raw → ℕ → Type 0
IsInRange raw l = l ≤ 2 * raw.max_var + 1

-- what an input, a latch or a left side may be
abbrev pub IsDefinition : ℕ → Type 0
IsDefinition l = IsEven l × (0 < l)

-- x stands at two places
abbrev pub StandsTwice : List ℕ → ℕ → Type 0
StandsTwice xs x = (i j : ℕ) × (i < j) × (slice_get xs i ≡ Some x) × (slice_get xs j ≡ Some x)

-- the variable is defined more than once
abbrev pub IsRedefined : Raw → ℕ → Type 0
IsRedefined raw v = StandsTwice (map variable (definitions raw)) v

-- the variable is used, not 0 and not defined
abbrev pub IsUndefined : Raw → ℕ → Type 0
IsUndefined raw v = Contains (map variable (uses raw)) v × (IsDefined raw v → ⊥)

-- 0, 1, or the latch's own literal, which means uninitialised
abbrev pub IsReset : Latch → Type 0
IsReset x = (x.reset ≡ 0) ⊎ (x.reset ≡ 1) ⊎ (x.reset ≡ x.lit)

pub record IsSound (raw : Raw) : Type 0 where
  pub in_range : All (IsInRange raw) (definitions raw ++ uses raw)
  pub definitions : All IsDefinition (definitions raw)
  pub once : (v : ℕ) → IsRedefined raw v → ⊥
  pub defined : All (λ l. IsDefined raw (variable l)) (uses raw)
  pub resets : All IsReset raw.latches
