-- Proofs, step by step from the first byte on.
-- Example: `1 0/d 1 0/` is a proof of two steps, and begins with one that adds a clause.
use Rattle.std.specs.Prelude.{◌≡◌, ◌⊎◌, ℕ, ◌+◌, Bool, true, false, List, [], ◌∷◌, ◌++◌, length}
use Rattle.aig_sat.specs.declared.proof.step.StepKind.{StepKind}
use Rattle.aig_sat.specs.declared.proof.step.StepKind.TheVariants.{Add}
use Rattle.aig_sat.specs.proof.HintedText.{HintedStep, SpellsHinted}
use Rattle.aig_sat.specs.proof.ProofText.{Gap, SpellsStep, last_byte}
use Rattle.aig_sat.specs.proof.ProofBytes.{SpellsBinaryStep}

-- a step as it is spelled
pub record Step : Type 0 where
  pub kind : StepKind
  pub clause : List ℕ

-- there is none yet
abbrev pub are_none : List Step → Bool
are_none [] = true
are_none (step ∷ steps) = false

-- the text spells these steps, one after the other
pub data TextSteps : List ℕ → List Step → Type 0 where
  none : TextSteps [] []
  more : {text : List ℕ} {steps : List Step} (next : List ℕ) (step : Step) → TextSteps text steps
      → SpellsStep (are_none steps) (last_byte 10 text) next step.kind step.clause
      → TextSteps (text ++ next) (steps ++ step ∷ [])

-- the same of the binary form
pub data BinarySteps : List ℕ → List Step → Type 0 where
  none : BinarySteps [] []
  more : {bytes : List ℕ} {steps : List Step} (next : List ℕ) (step : Step) → BinarySteps bytes steps
      → SpellsBinaryStep next step.kind step.clause → BinarySteps (bytes ++ next) (steps ++ step ∷ [])

-- the bytes begin with these steps
abbrev pub BeginsWith : List ℕ → List Step → Type 0
BeginsWith bytes steps =
    ((text : List ℕ) × (rest : List ℕ) × TextSteps text steps × (bytes ++ 10 ∷ [] ≡ text ++ rest))
    ⊎ ((front : List ℕ) × (rest : List ℕ) × BinarySteps front steps × (bytes ≡ front ++ rest))

-- the text spells these steps with hints, one after the other
pub data HintedSteps : List ℕ → List HintedStep → Type 0 where
  none : HintedSteps [] []
  more : {text : List ℕ} {steps : List HintedStep} (next : List ℕ) (step : HintedStep) → HintedSteps text steps
      → SpellsHinted (last_byte 10 text) next step → HintedSteps (text ++ next) (steps ++ step ∷ [])

-- The bytes are steps with hints up to their end. After the last step, what is left separates.
abbrev pub IsHintedProof : List ℕ → Type 0
IsHintedProof bytes =
    (steps : List HintedStep) × (text : List ℕ) × (gap : List ℕ) × HintedSteps text steps × Gap (last_byte 10 text) gap
    × (bytes ++ 10 ∷ [] ≡ text ++ gap)

-- The bytes are steps up to their end. After the last step of a text, what is left separates.
abbrev pub IsProof : List ℕ → Type 0
IsProof bytes =
    ((steps : List Step)
    × (((text : List ℕ) × (gap : List ℕ) × TextSteps text steps × Gap (last_byte 10 text) gap
    × (bytes ++ 10 ∷ [] ≡ text ++ gap))
    ⊎ BinarySteps bytes steps))
    ⊎ IsHintedProof bytes

-- the bytes begin with n steps with hints, the last of which adds a clause
abbrev pub HasHintedAddition : ℕ → List ℕ → Type 0
HasHintedAddition n bytes =
    (steps : List HintedStep) × (step : HintedStep) × (text : List ℕ) × (rest : List ℕ) × (step.kind ≡ Add)
    × HintedSteps text (steps ++ step ∷ []) × (bytes ++ 10 ∷ [] ≡ text ++ rest) × (length steps + 1 ≡ n)

-- the bytes begin with n steps, the last of which adds a clause
abbrev pub HasAddition : ℕ → List ℕ → Type 0
HasAddition n bytes =
    ((steps : List Step) × (clause : List ℕ)
    × BeginsWith bytes (steps ++ record { kind = Add; clause = clause } ∷ []) × (length steps + 1 ≡ n))
    ⊎ HasHintedAddition n bytes
