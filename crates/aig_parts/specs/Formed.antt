-- Formed parts: counts within the limits (our own choice), and each symbol names an entry that is there, which has one
-- name (AIGER 1.0, symbol table).
-- Example: two inputs and a symbol `i2 a` are not formed: there is no input 2.
use Rattle.std.specs.Prelude.{ℕ, ◌≤◌, ◌<◌, ◌≢◌, List, length, sum_by, All, AllPairs}
use Rattle.std.specs.Map.{keys_of}
use Rattle.aig_parts.specs.declared.raw.Raw.{Raw}
use Rattle.aig_parts.specs.declared.symbols.Kind.{Kind}
use Rattle.aig_parts.specs.declared.symbols.Kind.TheVariants.{Input, Latch, Output, Bad, Constraint, Justice, Fairness}

-- the greatest variable and the greatest count
abbrev pub limit : ℕ
limit = 4194303

-- the length of the section that a symbol names an entry of
abbrev pub section_length : Raw → Kind → ℕ
section_length raw Input = length raw.inputs
section_length raw Latch = length raw.latches
section_length raw Output = length raw.outputs
section_length raw Bad = length raw.bad
section_length raw Constraint = length raw.constraints
section_length raw Justice = length raw.justice
section_length raw Fairness = length raw.fairness

-- a name is one or more bytes other than LF
abbrev pub IsName : List ℕ → Type 0
IsName bytes = (0 < length bytes) × All (λ b. b ≢ 10) bytes

-- a symbol names an entry that is there
abbrev pub IsSymbolOf : Raw → (Kind × ℕ) × List ℕ → Type 0
IsSymbolOf raw e = (e.0.1 < section_length raw e.0.0) × IsName e.1

-- no entry has two names
abbrev pub AreNamedOnce : Raw → Type 0
AreNamedOnce raw = AllPairs (λ x y. x ≢ y) (keys_of raw.symbols)

-- no count is over the limit
pub record CountsFit (raw : Raw) : Type 0 where
  pub max_var : raw.max_var ≤ limit
  pub inputs : length raw.inputs ≤ limit
  pub latches : length raw.latches ≤ limit
  pub outputs : length raw.outputs ≤ limit
  pub bad : length raw.bad ≤ limit
  pub constraints : length raw.constraints ≤ limit
  pub justice : length raw.justice ≤ limit
  pub fairness : length raw.fairness ≤ limit
  pub gates : length raw.gates ≤ limit
  pub justice_literals : sum_by length raw.justice ≤ limit

pub record IsFormed (raw : Raw) : Type 0 where
  pub counts : CountsFit raw
  pub symbols : All (IsSymbolOf raw) raw.symbols
  pub names : AreNamedOnce raw
