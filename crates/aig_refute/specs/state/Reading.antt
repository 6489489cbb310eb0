-- What is read of a proof.
use Rattle.std.specs.Prelude.{◌≡◌, ℕ, Bool, true, false, List, [], Option, Some}
use Rattle.aig_sat.specs.declared.proof.spelling.Spelling.{Spelling}
use Rattle.aig_sat.specs.declared.proof.step.StepKind.{StepKind}
use Rattle.aig_sat.specs.proof.Steps.{Block, Reads, ReadsHinted, StepReader, bytes_to_come, text_to_come}

-- nothing was read
abbrev pub fresh : Block
fresh = record { waiting = []; ended = false; previous = 10 }

-- Nothing was taken of these bytes, which may have been read.
pub record BeginsAll (block : Block) (whole left : Option (List ℕ)) : Type 0 where
  pub text : text_to_come fresh whole ≡ text_to_come block left
  pub bytes : bytes_to_come fresh whole ≡ bytes_to_come block left
  pub previous : block.previous ≡ 10

-- what a call read, with hints or without
abbrev pub ReadsEither : Bool → StepReader → StepReader → Option (List ℕ) → Option (List ℕ) → Option StepKind → Type 0
ReadsEither true old new left left' kind = ReadsHinted old new left left' kind
ReadsEither false old new left left' kind =
    Reads old new left left' kind × ((s : Spelling) → old.spelling ≡ Some s → new.spelling ≡ Some s)
