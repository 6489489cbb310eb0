-- Why a run is none of the circuit, as `check` says it (our own choice).
-- Example: `c1 is x at 8`.
use Rattle.std.specs.Prelude.{◌≡◌, ℕ, ◌<◌, List, [], ◌∷◌, ◌++◌, length, codes, decimal, Option, None, Some, slice_get}
use Rattle.aig_parts.specs.declared.raw.Raw.{Raw}
use Rattle.aig_parts.specs.declared.symbols.Kind.TheVariants.{Latch, Constraint}
use Rattle.aig_parts.specs.declared.ternary.Tern.{Tern}
use Rattle.aig_bench.specs.BenchState.{CircuitAndRows}
use Rattle.aig_signals.specs.Names.{first_name}
use Rattle.aig_sim.specs.Verdict.{StartsWrong}
use Rattle.aig_values.specs.Characters.{character}
use Rattle.aig_shell.specs.Standing.{HoldBefore, IsFirstBroken, StartsRight}
use Rattle.aig_shell.specs.declared.answers.check.Broken.{Broken}

-- the first constraint that is not 1, if there is one
abbrev pub AreConstraints : CircuitAndRows → Option Broken → Type 0
AreConstraints p None = HoldBefore p (length p.rows)
AreConstraints p (Some broken) = IsFirstBroken p broken.frame broken.constraint broken.value

-- latch k is the first that starts at a value that its reset does not allow, and this is the value
pub record IsFirstWrong (raw : Raw) (start : List Tern) (k : ℕ) (w : Tern) : Type 0 where
  pub wrong : StartsWrong raw start k
  pub value_is : slice_get start k ≡ Some w
  pub before : (j : ℕ) → j < k → StartsWrong raw start j → ⊥

-- that latch, if there is one
abbrev pub AreStarts : Raw → List Tern → Option (ℕ × Tern) → Type 0
AreStarts raw start None = StartsRight raw start
AreStarts raw start (Some (k, w)) = IsFirstWrong raw start k w

-- what is said of a circuit without properties
abbrev pub no_property_text : List ℕ → List ℕ
no_property_text [] = codes "the circuit has no bad state property\n"
no_property_text (l ∷ more) = []

abbrev pub broken_text : Raw → Option Broken → List ℕ
broken_text raw None = []
broken_text raw (Some broken) =
    first_name raw Constraint broken.constraint
    ++ (codes " is " ++ character broken.value ∷ (codes " at " ++ (decimal broken.frame ++ 10 ∷ [])))

abbrev pub start_text : Raw → Option (ℕ × Tern) → List ℕ
start_text raw None = []
start_text raw (Some (k, w)) = first_name raw Latch k ++ (codes " starts at " ++ character w ∷ codes ", not at its reset\n")
