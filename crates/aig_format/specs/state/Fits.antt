-- What is known of the parts that are read after a header: by its counts, and by the variables of entries.
use Rattle.std.specs.Prelude.{◌≡◌, ◌≢◌, ℕ, suc, ◌*◌, ◌<◌, ◌≤◌, List, [], ◌∷◌, length, sum_by, All, AllPairs}
use Rattle.std.specs.Map.{keys_of}
use Rattle.aig_parts.specs.declared.gate.Gate.{Gate}
use Rattle.aig_parts.specs.Formed as formed
use Rattle.aig_parts.specs.Formed.{IsName}
use Rattle.aig_format.specs.declared.reader.header.Counts.{Counts}
use Rattle.aig_format.specs.declared.reader.section.Properties.{Properties}
use Rattle.aig_format.specs.Spelling.{Entry}
use Rattle.aig_format.specs.state.ReadingNames.{count_of}

-- each fits its variable, of those from v on
unfoldable pub FitsFrom : {X : Type 0} → (ℕ → X → Type 0) → ℕ → List X → Type 0
FitsFrom Fits v [] = Unit {0}
FitsFrom Fits v (x ∷ xs) = Fits v x × FitsFrom Fits (suc v) xs

-- a gate of the variable, its sides in the order of a binary file
abbrev pub IsImplicitGate : ℕ → Gate → Type 0
IsImplicitGate v g = (g.lhs ≡ 2 * v) × (g.rhs0 < g.lhs) × (g.rhs1 ≤ g.rhs0)

-- each section has as many entries as is counted
pub record HasCounts (c : Counts) (p : Properties) : Type 0 where
  pub outputs : length p.outputs ≡ c.outputs
  pub bad : length p.bad ≡ c.bad
  pub constraints : length p.constraints ≡ c.constraints
  pub justice : length p.justice ≡ c.justice
  pub literals : sum_by length p.justice ≤ formed.limit
  pub fairness : length p.fairness ≡ c.fairness

-- a symbol names an entry that is counted
abbrev pub IsCountedSymbol : Counts → Entry → Type 0
IsCountedSymbol c e = (e.0.1 < count_of c e.0.0) × IsName e.1

-- each symbol does, and no entry is named twice
pub record AreSymbols (c : Counts) (symbols : List Entry) : Type 0 where
  pub entries : All (IsCountedSymbol c) symbols
  pub once : AllPairs (λ x y. x ≢ y) (keys_of symbols)
