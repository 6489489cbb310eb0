-- What a reader of steps is seen as, and what reading a step does.
-- Examples: `1 x` is no step of a text, `1 0` is the first one, and `c` and an LF are the end; for 3 variables, 0 to 5.
use Rattle.std.specs.Prelude.{◌≡◌, ◌≢◌, ◌⊎◌, ℕ, ◌<◌, ◌≤◌, ◌%◌, Bool, if◌then◌else◌, List, [], ◌∷◌, ◌++◌, All, Option}
use Rattle.std.specs.Prelude.{Some, None, IfSome}
use Rattle.std.specs.Option.{is_none}
use Rattle.aig_bytes.specs.Bytes.{before, IsAtEnd}
use Rattle.aig_parts.specs.Literal.{variable}
use Rattle.aig_sat.specs.declared.proof.spelling.Spelling.{Spelling}
use Rattle.aig_sat.specs.declared.proof.spelling.Spelling.TheVariants.{Text, Binary}
use Rattle.aig_sat.specs.declared.proof.step.StepKind.{StepKind}
use Rattle.aig_sat.specs.proof.HintedText.{HintedStep, SpellsHinted}
use Rattle.aig_sat.specs.proof.ProofText.{Gap, SpellsStep, last_byte}
use Rattle.aig_sat.specs.proof.ProofBytes.{SpellsBinaryStep}

-- The bytes that were read and not taken. Once a read has given the end, they include an LF for the end, until it is
-- taken. The byte that was taken last is an LF before the first.
pub record Block : Type 0 where
  pub waiting : List ℕ
  pub ended : Bool
  pub previous : ℕ

-- how many variables the formula has, how many there are with those of the proof's own, the clause of the last step
-- that was read, its number and its hints where it has them, how the proof is spelled where that is known, and the
-- bytes
pub record StepReader : Type 0 where
  pub formula : ℕ
  pub variables : ℕ
  pub clause : List ℕ
  pub number : ℕ
  pub hints : List ℕ
  pub spelling : Option Spelling
  pub block : Block

-- each literal is one of so many variables
abbrev pub AreLiterals : ℕ → List ℕ → Type 0
AreLiterals variables clause = All (λ l. variable l < variables) clause

-- A literal of the formula is meant as it is spelled. One of another variable means a variable that is not the
-- formula's, with the same sign.
pub record IsRenamed (formula spelled meant : ℕ) : Type 0 where
  pub same : variable spelled < formula → meant ≡ spelled
  pub own : formula ≤ variable spelled → formula ≤ variable meant
  pub sign : meant % 2 ≡ spelled % 2

-- the same of each literal of a clause
abbrev pub AreRenamed : ℕ → List ℕ → List ℕ → Type 0
AreRenamed formula [] [] = Unit {0}
AreRenamed formula [] (l ∷ meant) = ⊥
AreRenamed formula (s ∷ spelled) [] = ⊥
AreRenamed formula (s ∷ spelled) (l ∷ meant) = IsRenamed formula s l × AreRenamed formula spelled meant

-- the bytes to come of a text, with the LF at its end, where the reader knows those that it has left
abbrev pub text_to_come : Block → Option (List ℕ) → Option (List ℕ)
text_to_come block None = None
text_to_come block (Some left) = Some (if block.ended then block.waiting else block.waiting ++ (left ++ 10 ∷ []))

-- the bytes to come of the binary form
abbrev pub bytes_to_come : Block → Option (List ℕ) → Option (List ℕ)
bytes_to_come block None = None
bytes_to_come block (Some left) = Some (if block.ended then [] else block.waiting ++ left)

-- these bytes of a text were taken
pub record TakesText (old new : Block) (left left' : Option (List ℕ)) (taken : List ℕ) : Type 0 where
  pub come : text_to_come old left ≡ before taken (text_to_come new left')
  pub previous : new.previous ≡ last_byte old.previous taken

-- The bytes of a proof that is spelled so: a text does not begin with an `a`, and the binary form begins with an `a` or
-- a `d`.
abbrev pub BeginsSo : Spelling → Option (List ℕ) → Type 0
BeginsSo spelling None = Unit {0}
BeginsSo spelling (Some []) = Unit {0}
BeginsSo Text (Some (b ∷ rest)) = b ≢ 97
BeginsSo Binary (Some (b ∷ rest)) = (b ≡ 97) ⊎ (b ≡ 100)

-- The next bytes spell this step, which is the first one where it was not known yet how the proof is spelled. Its
-- clause has the literals that they spell, in order, but for the names of the proof's own variables. The reader had
-- these bytes left before it, and these after it.
abbrev pub ReadsStep : StepReader → StepReader → Option (List ℕ) → Option (List ℕ) → StepKind → Option Spelling → Type 0
ReadsStep old new left left' kind (Some Text) = (text : List ℕ) × (spelled : List ℕ)
    × SpellsStep (is_none old.spelling) old.block.previous text kind spelled
    × AreRenamed old.formula spelled new.clause
    × TakesText old.block new.block left left' text
ReadsStep old new left left' kind (Some Binary) = (bytes : List ℕ) × (spelled : List ℕ)
    × SpellsBinaryStep bytes kind spelled
    × AreRenamed old.formula spelled new.clause
    × (bytes_to_come old.block left ≡ before bytes (bytes_to_come new.block left'))
ReadsStep old new left left' kind None = ⊥

-- no step follows: what is left of a text only separates, and nothing is left of the binary form
abbrev pub ReadsEnd : StepReader → StepReader → Option (List ℕ) → Option (List ℕ) → Option Spelling → Type 0
ReadsEnd old new left left' (Some Text) = (text : List ℕ)
    × Gap old.block.previous text
    × (text_to_come old.block left ≡ before text (text_to_come new.block left'))
    × IsAtEnd (text_to_come new.block left')
ReadsEnd old new left left' (Some Binary) = IsAtEnd (bytes_to_come old.block left)
ReadsEnd old new left left' None = ⊥

-- what a call read, by its answer
abbrev pub Reads : StepReader → StepReader → Option (List ℕ) → Option (List ℕ) → Option StepKind → Type 0
Reads old new left left' (Some kind) = ReadsStep old new left left' kind new.spelling
Reads old new left left' None = ReadsEnd old new left left' new.spelling

-- The same of a proof with hints. Only the clause may have the names of the proof's own variables.
abbrev pub ReadsHinted : StepReader → StepReader → Option (List ℕ) → Option (List ℕ) → Option StepKind → Type 0
ReadsHinted old new left left' (Some kind) = (text : List ℕ) × (spelled : List ℕ)
    × SpellsHinted old.block.previous text
    (record { number = new.number; kind = kind; clause = spelled; hints = new.hints })
    × AreRenamed old.formula spelled new.clause
    × TakesText old.block new.block left left' text
ReadsHinted old new left left' None = ReadsEnd old new left left' (Some Text)

-- the bytes to come of a text begin with a step, or only separate up to their end
abbrev pub StepToCome : Bool → ℕ → List ℕ → Type 0
StepToCome is_first previous bytes =
    ((text : List ℕ) × (rest : List ℕ) × (kind : StepKind) × (clause : List ℕ)
    × SpellsStep is_first previous text kind clause × (bytes ≡ text ++ rest))
    ⊎ Gap previous bytes

-- those of the binary form begin with a step, or are none
abbrev pub BinaryStepToCome : List ℕ → Type 0
BinaryStepToCome bytes =
    ((next : List ℕ) × (rest : List ℕ) × (kind : StepKind) × (clause : List ℕ)
    × SpellsBinaryStep next kind clause × (bytes ≡ next ++ rest))
    ⊎ (bytes ≡ [])

-- Neither a step nor the end of the proof is next, which would be the first step where it was not known yet how the
-- proof is spelled.
abbrev pub NoStep : StepReader → Option (List ℕ) → Option Spelling → Type 0
NoStep reader left (Some Text) =
    IfSome (text_to_come reader.block left)
    (λ bytes. StepToCome (is_none reader.spelling) reader.block.previous bytes → ⊥)
NoStep reader left (Some Binary) = IfSome (bytes_to_come reader.block left) (λ bytes. BinaryStepToCome bytes → ⊥)
NoStep reader left None = ⊥

-- The same of a proof with hints: its bytes to come begin with a step, or only separate up to their end.
abbrev pub HintedStepToCome : ℕ → List ℕ → Type 0
HintedStepToCome previous bytes =
    ((text : List ℕ) × (rest : List ℕ) × (step : HintedStep)
    × SpellsHinted previous text step × (bytes ≡ text ++ rest))
    ⊎ Gap previous bytes

-- neither a step with hints nor the end of the proof is next
abbrev pub NoHintedStep : StepReader → Option (List ℕ) → Type 0
NoHintedStep reader left =
    IfSome (text_to_come reader.block left) (λ bytes. HintedStepToCome reader.block.previous bytes → ⊥)
