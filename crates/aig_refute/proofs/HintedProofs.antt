-- A proof with hints from its first byte on: the steps that were read so far.
use Rattle.std.proofs.Common.{◌≡◌, inr, ℕ, ◌+◌, List, [], ◌∷◌, ◌++◌, length, Option, Some, None}
use Rattle.std.proofs.Common.{sym, ap, ◌∙◌, subst}
use Rattle.std.specs.Prelude.{IfSome}
use Rattle.std.proofs.lemmas.List.{append-nil}
use Rattle.aig_bytes.specs.Bytes.{before, IsAtEnd}
use Rattle.aig_sat.proofs.reading.TakingLemmas.{before_none, before_then, last_then}
use Rattle.aig_sat.specs.declared.proof.step.StepKind.{StepKind}
use Rattle.aig_sat.specs.declared.proof.step.StepKind.TheVariants.{Add}
use Rattle.aig_sat.specs.proof.HintedText.{HintedStep, SpellsHinted}
use Rattle.aig_sat.specs.proof.ProofText.{Gap, last_byte}
use Rattle.aig_sat.specs.proof.Proofs.{HasAddition, HintedSteps, IsProof}
use Rattle.aig_sat.specs.proof.Steps.{Block, ReadsHinted, StepReader, text_to_come}
use Rattle.aig_refute.specs.state.Reading.{BeginsAll, fresh}

-- a proof with hints was read up to here
pub record HintedRead (block : Block) (whole left : Option (List ℕ)) (steps : List HintedStep) : Type 0 where
  pub text : List ℕ
  pub spelled : HintedSteps text steps
  pub come : text_to_come fresh whole ≡ before text (text_to_come block left)
  pub previous : block.previous ≡ last_byte 10 text

pub hinted_none : (block : Block) (whole left : Option (List ℕ)) → BeginsAll block whole left → HintedRead block whole left []
hinted_none block whole left begun = record {
  text = [];
  spelled = HintedSteps.none;
  come = begun.text ∙ sym (before_none (text_to_come block left));
  previous = begun.previous;
}

module _ (old new : StepReader) (whole l m : Option (List ℕ)) (steps : List HintedStep)
    (so : HintedRead old.block whole l steps) where
  -- one more step
  pub hinted_more : (kind : StepKind) → ReadsHinted old new l m (Some kind)
      → (clause : List ℕ) × HintedRead new.block whole m
      (steps ++ record { number = new.number; kind = kind; clause = clause; hints = new.hints } ∷ [])
  hinted_more kind (text, spelled, is, renamed, took) =
      let step : HintedStep = record { number = new.number; kind = kind; clause = spelled; hints = new.hints } in (
        spelled,
        record {
          text = so.text ++ text;
          spelled = HintedSteps.more text step so.spelled (subst (λ (p : ℕ). SpellsHinted p text step) so.previous is);
          come = so.come ∙ ap (before so.text) took.come ∙ before_then so.text text (text_to_come new.block m);
          previous = took.previous ∙ ap (λ (p : ℕ). last_byte p text) so.previous ∙ last_then 10 so.text text;
        },
      )

  -- where no step is left, all is a proof
  pub hinted_whole : ReadsHinted old new l m None → IfSome whole IsProof
  hinted_whole (gap, is, took, ends) = known whole (text_to_come new.block m) ends
      (so.come ∙ ap (before so.text) took ∙ before_then so.text gap (text_to_come new.block m))
    where
      known : (whole rest : Option (List ℕ)) → IsAtEnd rest → text_to_come fresh whole ≡ before (so.text ++ gap) rest
          → IfSome whole IsProof
      known None rest ends e = tt
      known (Some bytes) None ends e = let never : ⊥ = cc in absurd never
      known (Some bytes) (Some rest) ends e =
          let k : bytes ++ 10 ∷ [] ≡ (so.text ++ gap) ++ rest = cc in
          inr (
            steps,
            so.text,
            gap,
            so.spelled,
            subst (λ (p : ℕ). Gap p gap) so.previous is,
            k ∙ ap (λ (xs : List ℕ). (so.text ++ gap) ++ xs) ends ∙ append-nil (so.text ++ gap),
          )

-- the bytes begin with what was read
pub hinted_begins : (block : Block) (whole l : Option (List ℕ)) (steps : List HintedStep) (step : HintedStep) (n : ℕ)
    → step.kind ≡ Add → length steps + 1 ≡ n → HintedRead block whole l (steps ++ step ∷ []) → IfSome whole (HasAddition n)
hinted_begins block None l steps step n adds count so = tt
hinted_begins block (Some bytes) l steps step n adds count so = known (text_to_come block l) so.come
  where
    known : (rest : Option (List ℕ)) → Some (bytes ++ 10 ∷ []) ≡ before so.text rest → HasAddition n bytes
    known None e = let no : ⊥ = cc in absurd no
    known (Some rest) e =
        let k : bytes ++ 10 ∷ [] ≡ so.text ++ rest = cc in inr (steps, step, so.text, rest, adds, so.spelled, k, count)
