-- How far a model was read.
use Rattle.std.specs.Prelude.{◌≡◌, ◌⊎◌, ℕ, ◌+◌, ◌<◌, ◌≤◌, List, [], ◌∷◌, ◌++◌, length, take, Some, slice_get}
use Rattle.std.specs.Prelude.{Result, Err, IfOk}
use Rattle.aig_parts.specs.declared.ternary.Tern.{Tern}
use Rattle.aig_sat.specs.model.ModelText.{BeginsLine, HasStatus, IsModelOf, Names}
use Rattle.aig_sat.specs.model.ModelText.{SaysSatisfiable, SaysUnknown, SaysUnsatisfiable}
use Rattle.aig_sat.specs.model.Named.{AreNamed}
use Rattle.aig_sat.specs.declared.model.fault.ModelFault.{ModelFault}
use Rattle.aig_sat.specs.declared.model.fault.ModelFault.TheVariants as faults
use Rattle.aig_sat.specs.declared.model.reader.Phase.TheVariants.{Before}
use Rattle.aig_sat.specs.declared.model.reader.Answer.{Answer}
use Rattle.aig_sat.specs.declared.model.reader.Answer.TheVariants.{Satisfiable, Unsatisfiable, Unknown}
use Rattle.aig_sat.specs.declared.model.progress.Reader.{Reader}

-- a line by which a solver answers
abbrev pub Says : List ℕ → Answer → Type 0
Says line Satisfiable = SaysSatisfiable line
Says line Unsatisfiable = SaysUnsatisfiable line
Says line Unknown = SaysUnknown line

-- the text names these literals, and their values are kept
pub record HasRead (reader : Reader) (text literals : List ℕ) : Type 0 where
  pub names : Names (length reader.values) text reader.phase literals
  pub named : AreNamed literals (length reader.values) reader.values

-- whatever was read before, the reader goes on by this piece and the space that ends it
abbrev pub GoesOn : Reader → Reader → List ℕ → ℕ → Type 0
GoesOn old new piece b =
    (text literals : List ℕ) → HasRead old text literals
    → (more : List ℕ) × HasRead new (text ++ (piece ++ b ∷ [])) more

-- the same, where the piece begins a line
abbrev pub GoesOnLine : Reader → Reader → List ℕ → ℕ → Type 0
GoesOnLine old new piece b =
    (text literals : List ℕ) → BeginsLine text → HasRead old text literals
    → (more : List ℕ) × HasRead new (text ++ (piece ++ b ∷ [])) more

-- the text was read up to a place, where the LF counts that ends its last line
abbrev pub ReadUpTo : Reader → List ℕ → ℕ → Type 0
ReadUpTo reader text at =
    (at ≤ length text + 1) × ((literals : List ℕ) × HasRead reader (take at (text ++ 10 ∷ [])) literals)

-- a byte by which such a line begins
abbrev pub IsAnswerByte : ℕ → Type 0
IsAnswerByte x = (x ≡ 115) ⊎ ((x ≡ 83) ⊎ ((x ≡ 85) ⊎ (x ≡ 73)))

-- at the place begins a comment, or before all literals a line by which a solver answers
pub record BeginsLineAt (reader : Reader) (text : List ℕ) (at : ℕ) : Type 0 where
  pub begins : BeginsLine (take at (text ++ 10 ∷ []))
  pub first : ℕ
  pub there : slice_get (text ++ 10 ∷ []) at ≡ Some first
  pub is : (first ≡ 99) ⊎ ((reader.phase ≡ Before) × IsAnswerByte first)

-- Reading at a place gives the place after it. Where it fails, a solver's line says so, or the text is no model.
pub record TakesAt (old new : Reader) (text : List ℕ) (at : ℕ) (r : Result ℕ ModelFault) : Type 0 where
  pub goes_on : IfOk r (λ next. ReadUpTo old text at → ReadUpTo new text next)
  pub after : IfOk r (λ next. at < next)
  pub count : new.variables ≡ old.variables
  pub unsatisfiable : r ≡ Err faults.Unsatisfiable → ReadUpTo old text at → HasStatus SaysUnsatisfiable old.variables text
  pub unknown : r ≡ Err faults.Unknown → ReadUpTo old text at → HasStatus SaysUnknown old.variables text
  pub refused : (a : ℕ) → r ≡ Err (faults.Text a) → ReadUpTo old text at → (values : List Tern)
      → IsModelOf old.variables text values → ⊥
