-- The text of a solver's model, as the SAT competitions and older solvers print it. Where they differ, this is our own
-- choice.
-- Examples: `-2` for literal 3; `v 1 -2 0` names 0 and 3, so of three variables the values are 1, 0 and x.
use Rattle.std.specs.Prelude.{◌≡◌, ◌≢◌, ◌⊎◌, ℕ, ◌+◌, ◌%◌, ◌<◌, nat_eq, if◌then◌else◌, List, [], ◌∷◌, ◌++◌, All, codes}
use Rattle.std.specs.Prelude.{decimal}
use Rattle.aig_parts.specs.Literal.{variable}
use Rattle.aig_parts.specs.declared.ternary.Tern.{Tern}
use Rattle.aig_sat.specs.model.Named.{AreNamed}
use Rattle.aig_sat.specs.declared.model.reader.Phase.{Phase}
use Rattle.aig_sat.specs.declared.model.reader.Phase.TheVariants.{Before, Within, After}

-- a blank, a tab or the end of a line
abbrev pub IsSpace : ℕ → Type 0
IsSpace b = (b ≡ 32) ⊎ ((b ≡ 9) ⊎ (b ≡ 10))

-- a line begins after the text
abbrev pub BeginsLine : List ℕ → Type 0
BeginsLine text = (text ≡ []) ⊎ ((front : List ℕ) × (text ≡ front ++ 10 ∷ []))

-- the number of a literal: its variable, from 1, after a minus where it is negated
abbrev pub number_text : ℕ → List ℕ
number_text l = (if nat_eq (l % 2) 0 then [] else codes "-") ++ decimal (variable l + 1)

-- the lines by which solvers say that there is a model
abbrev pub SaysSatisfiable : List ℕ → Type 0
SaysSatisfiable line = (line ≡ codes "s SATISFIABLE") ⊎ ((line ≡ codes "SATISFIABLE") ⊎ (line ≡ codes "SAT"))

-- that there is none
abbrev pub SaysUnsatisfiable : List ℕ → Type 0
SaysUnsatisfiable line = (line ≡ codes "s UNSATISFIABLE") ⊎ ((line ≡ codes "UNSATISFIABLE") ⊎ (line ≡ codes "UNSAT"))

-- and that they do not know
abbrev pub SaysUnknown : List ℕ → Type 0
SaysUnknown line = (line ≡ codes "s UNKNOWN") ⊎ (line ≡ codes "INDETERMINATE")

-- The text names these literals in turn, of so many variables. It ends behind the space or the line that it was read
-- to: before the line that says that there is a model, within the literals, or after the 0.
pub data Names (variables : ℕ) : List ℕ → Phase → List ℕ → Type 0 where
  nothing : Names variables [] Before []
  space : {text : List ℕ} {phase : Phase} {literals : List ℕ} (b : ℕ) → IsSpace b → Names variables text phase literals
      → Names variables (text ++ b ∷ []) phase literals
  comment : {text : List ℕ} {phase : Phase} {literals : List ℕ} (line : List ℕ) → All (λ b. b ≢ 10) line
      → BeginsLine text → Names variables text phase literals
      → Names variables (text ++ (99 ∷ (line ++ 10 ∷ []))) phase literals
  status : {text : List ℕ} (line : List ℕ) → SaysSatisfiable line → BeginsLine text → Names variables text Before []
      → Names variables (text ++ (line ++ 10 ∷ [])) Within []
  mark : {text : List ℕ} {phase : Phase} {literals : List ℕ} (b : ℕ) → IsSpace b → BeginsLine text → phase ≢ After
      → Names variables text phase literals → Names variables (text ++ (118 ∷ (b ∷ []))) phase literals
  literal : {text : List ℕ} {phase : Phase} {literals : List ℕ} (l b : ℕ) → IsSpace b → variable l < variables
      → phase ≢ After → Names variables text phase literals
      → Names variables (text ++ (number_text l ++ b ∷ [])) Within (literals ++ l ∷ [])
  end : {text : List ℕ} {phase : Phase} {literals : List ℕ} (b : ℕ) → IsSpace b → phase ≢ After
      → Names variables text phase literals → Names variables (text ++ (48 ∷ (b ∷ []))) After literals

-- the text is a model that names these literals; the LF of its last line may be missing
abbrev pub SpellsModel : ℕ → List ℕ → List ℕ → Type 0
SpellsModel variables text literals = Names variables (text ++ 10 ∷ []) After literals

-- the text is a model that gives so many variables these values
abbrev pub IsModelOf : ℕ → List ℕ → List Tern → Type 0
IsModelOf variables text values =
    (literals : List ℕ) × SpellsModel variables text literals × AreNamed literals variables values

-- the line stands in the text where the one stands that says that there is a model
pub record HasStatus (IsLine : List ℕ → Type 0) (variables : ℕ) (text : List ℕ) : Type 0 where
  pub front : List ℕ
  pub line : List ℕ
  pub rest : List ℕ
  pub before : Names variables front Before []
  pub begins : BeginsLine front
  pub line_is : IsLine line
  pub text_is : text ++ 10 ∷ [] ≡ front ++ (line ++ 10 ∷ rest)
