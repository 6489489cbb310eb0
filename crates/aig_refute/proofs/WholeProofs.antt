-- A proof from its first byte on: the steps that were read so far.
use Rattle.std.proofs.Common.{◌≡◌, inl, inr, ℕ, ◌+◌, Bool, true, false, List, [], ◌∷◌, ◌++◌, length, Option, Some, None}
use Rattle.std.proofs.Common.{refl, sym, ap, ◌∙◌, subst, append_assoc}
use Rattle.std.specs.Prelude.{IfSome}
use Rattle.std.specs.Option.{is_none}
use Rattle.std.proofs.lemmas.List.{append-nil}
use Rattle.aig_bytes.specs.Bytes.{before, IsAtEnd}
use Rattle.aig_sat.proofs.reading.TakingLemmas.{before_none, before_then, last_then}
use Rattle.aig_sat.specs.declared.proof.spelling.Spelling.{Spelling}
use Rattle.aig_sat.specs.declared.proof.spelling.Spelling.TheVariants.{Text, Binary}
use Rattle.aig_sat.specs.declared.proof.step.StepKind.{StepKind}
use Rattle.aig_sat.specs.declared.proof.step.StepKind.TheVariants.{Add}
use Rattle.aig_sat.specs.proof.ProofText.{Gap, SpellsStep, last_byte}
use Rattle.aig_sat.specs.proof.Proofs.{BeginsWith, BinarySteps, HasAddition, IsProof, Step, TextSteps, are_none}
use Rattle.aig_sat.specs.proof.Steps.{Block, Reads, ReadsEnd, ReadsStep, StepReader, TakesText, bytes_to_come}
use Rattle.aig_sat.specs.proof.Steps.{text_to_come}
use Rattle.aig_refute.specs.state.Reading.{BeginsAll, fresh}

-- a text was read up to here
pub record TextRead (block : Block) (whole left : Option (List ℕ)) (steps : List Step) : Type 0 where
  pub text : List ℕ
  pub spelled : TextSteps text steps
  pub some : are_none steps ≡ false
  pub come : text_to_come fresh whole ≡ before text (text_to_come block left)
  pub previous : block.previous ≡ last_byte 10 text

-- the same of the binary form
pub record BytesRead (block : Block) (whole left : Option (List ℕ)) (steps : List Step) : Type 0 where
  pub front : List ℕ
  pub spelled : BinarySteps front steps
  pub come : bytes_to_come fresh whole ≡ before front (bytes_to_come block left)

-- the same of either
abbrev pub SoFar : Option Spelling → Block → Option (List ℕ) → Option (List ℕ) → List Step → Type 0
SoFar None block whole left steps = (steps ≡ []) × BeginsAll block whole left
SoFar (Some Text) block whole left steps = TextRead block whole left steps
SoFar (Some Binary) block whole left steps = BytesRead block whole left steps

text_fresh : (whole l : Option (List ℕ)) (b : Block) → BeginsAll b whole l
    → text_to_come fresh whole ≡ before [] (text_to_come b l)
text_fresh whole l b begun = begun.text ∙ sym (before_none (text_to_come b l))

bytes_fresh : (whole l : Option (List ℕ)) (b : Block) → BeginsAll b whole l
    → bytes_to_come fresh whole ≡ before [] (bytes_to_come b l)
bytes_fresh whole l b begun = begun.bytes ∙ sym (before_none (bytes_to_come b l))

-- a look at the first bytes takes none
pub begins_all : (a b : Block) (l m : Option (List ℕ)) → a ≡ fresh → TakesText a b l m []
    → bytes_to_come a l ≡ bytes_to_come b m → BeginsAll b l m
begins_all a b l m e took bytes = record {
  text = ap (λ (k : Block). text_to_come k l) (sym e) ∙ took.come ∙ before_none (text_to_come b m);
  bytes = ap (λ (k : Block). bytes_to_come k l) (sym e) ∙ bytes;
  previous = took.previous ∙ ap (λ (k : Block). k.previous) e;
}

some_more : (steps : List Step) (step : Step) → are_none (steps ++ step ∷ []) ≡ false
some_more [] step = refl
some_more (s ∷ steps) step = refl

module _ (old new : StepReader) (whole l m : Option (List ℕ)) (steps : List Step)
    (stays : (s : Spelling) → old.spelling ≡ Some s → new.spelling ≡ Some s) where
  -- one more step
  pub step_read : (kind : StepKind) → SoFar old.spelling old.block whole l steps → Reads old new l m (Some kind)
      → (clause : List ℕ) × SoFar new.spelling new.block whole m (steps ++ record { kind = kind; clause = clause } ∷ [])
  step_read kind so reads = by old.spelling new.spelling refl refl so reads
    where
      text_more : (front : List ℕ) → TextSteps front steps → text_to_come fresh whole ≡ before front (text_to_come old.block l)
          → old.block.previous ≡ last_byte 10 front → is_none old.spelling ≡ are_none steps
          → ReadsStep old new l m kind (Some Text)
          → (clause : List ℕ) × TextRead new.block whole m (steps ++ record { kind = kind; clause = clause } ∷ [])
      text_more front done come previous first (text, spelled, is, renamed, took) = (
        spelled,
        record {
          text = front ++ text;
          spelled = TextSteps.more text (record { kind = kind; clause = spelled }) done
              (subst (λ (p : ℕ). SpellsStep (are_none steps) p text kind spelled) previous
              (subst (λ (f : Bool). SpellsStep f old.block.previous text kind spelled) first is));
          some = some_more steps (record { kind = kind; clause = spelled });
          come = come ∙ ap (before front) took.come ∙ before_then front text (text_to_come new.block m);
          previous = took.previous ∙ ap (λ (p : ℕ). last_byte p text) previous ∙ last_then 10 front text;
        },
      )

      bytes_more : (front : List ℕ) → BinarySteps front steps
          → bytes_to_come fresh whole ≡ before front (bytes_to_come old.block l) → ReadsStep old new l m kind (Some Binary)
          → (clause : List ℕ) × BytesRead new.block whole m (steps ++ record { kind = kind; clause = clause } ∷ [])
      bytes_more front done come (bytes, spelled, is, renamed, took) = (
        spelled,
        record {
          front = front ++ bytes;
          spelled = BinarySteps.more bytes (record { kind = kind; clause = spelled }) done is;
          come = come ∙ ap (before front) took ∙ before_then front bytes (bytes_to_come new.block m);
        },
      )

      by : (o n : Option Spelling) → old.spelling ≡ o → new.spelling ≡ n → SoFar o old.block whole l steps
          → ReadsStep old new l m kind n
          → (clause : List ℕ) × SoFar n new.block whole m (steps ++ record { kind = kind; clause = clause } ∷ [])
      by o None is is' so reads = absurd reads
      by None (Some Text) is is' (none, begun) reads =
          text_more [] (subst (TextSteps []) (sym none) TextSteps.none)
          (text_fresh whole l old.block begun) begun.previous
          (ap is_none is ∙ sym (ap are_none none)) reads
      by None (Some Binary) is is' (none, begun) reads =
          bytes_more [] (subst (BinarySteps []) (sym none) BinarySteps.none) (bytes_fresh whole l old.block begun) reads
      by (Some Text) (Some Text) is is' so reads =
          text_more so.text so.spelled so.come so.previous (ap is_none is ∙ sym so.some) reads
      by (Some Binary) (Some Binary) is is' so reads = bytes_more so.front so.spelled so.come reads
      by (Some Text) (Some Binary) is is' so reads =
          let k : Some Text ≡ Some Binary = sym (stays Text is) ∙ is' in let never : ⊥ = cc in absurd never
      by (Some Binary) (Some Text) is is' so reads =
          let k : Some Binary ≡ Some Text = sym (stays Binary is) ∙ is' in let never : ⊥ = cc in absurd never

  -- where no step is left, all is a proof
  pub whole_read : SoFar old.spelling old.block whole l steps → Reads old new l m None → IfSome whole IsProof
  whole_read so reads = by old.spelling new.spelling refl refl so reads
    where
      text_whole : (front : List ℕ) → TextSteps front steps → text_to_come fresh whole ≡ before front (text_to_come old.block l)
          → old.block.previous ≡ last_byte 10 front → ReadsEnd old new l m (Some Text) → IfSome whole IsProof
      text_whole front done come previous (gap, is, took, ends) = known whole (text_to_come new.block m) ends
          (come ∙ ap (before front) took ∙ before_then front gap (text_to_come new.block m))
        where
          known : (whole rest : Option (List ℕ)) → IsAtEnd rest → text_to_come fresh whole ≡ before (front ++ gap) rest
              → IfSome whole IsProof
          known None rest ends e = tt
          known (Some bytes) None ends e = let never : ⊥ = cc in absurd never
          known (Some bytes) (Some rest) ends e =
              let k : bytes ++ 10 ∷ [] ≡ (front ++ gap) ++ rest = cc in
              inl (
                steps,
                inl (
                  front,
                  gap,
                  done,
                  subst (λ (p : ℕ). Gap p gap) previous is,
                  k ∙ ap (λ (xs : List ℕ). (front ++ gap) ++ xs) ends ∙ append-nil (front ++ gap),
                ),
              )

      bytes_whole : (front : List ℕ) → BinarySteps front steps
          → bytes_to_come fresh whole ≡ before front (bytes_to_come old.block l) → ReadsEnd old new l m (Some Binary)
          → IfSome whole IsProof
      bytes_whole front done come ends = known whole (bytes_to_come old.block l) ends come
        where
          known : (whole rest : Option (List ℕ)) → IsAtEnd rest → bytes_to_come fresh whole ≡ before front rest
              → IfSome whole IsProof
          known None rest ends e = tt
          known (Some bytes) None ends e = let never : ⊥ = cc in absurd never
          known (Some bytes) (Some rest) ends e =
              let k : bytes ≡ front ++ rest = cc in
              inl (
                steps,
                inr (subst (λ (xs : List ℕ). BinarySteps xs steps)
                    (sym (k ∙ ap (λ (xs : List ℕ). front ++ xs) ends ∙ append-nil front)) done),
              )

      by : (o n : Option Spelling) → old.spelling ≡ o → new.spelling ≡ n → SoFar o old.block whole l steps
          → ReadsEnd old new l m n → IfSome whole IsProof
      by o None is is' so reads = absurd reads
      by None (Some Text) is is' (none, begun) reads =
          text_whole [] (subst (TextSteps []) (sym none) TextSteps.none)
          (text_fresh whole l old.block begun) begun.previous reads
      by None (Some Binary) is is' (none, begun) reads =
          bytes_whole [] (subst (BinarySteps []) (sym none) BinarySteps.none) (bytes_fresh whole l old.block begun) reads
      by (Some Text) (Some Text) is is' so reads = text_whole so.text so.spelled so.come so.previous reads
      by (Some Binary) (Some Binary) is is' so reads = bytes_whole so.front so.spelled so.come reads
      by (Some Text) (Some Binary) is is' so reads =
          let k : Some Text ≡ Some Binary = sym (stays Text is) ∙ is' in let never : ⊥ = cc in absurd never
      by (Some Binary) (Some Text) is is' so reads =
          let k : Some Binary ≡ Some Text = sym (stays Binary is) ∙ is' in let never : ⊥ = cc in absurd never

-- the bytes begin with what was read
pub begins_with : (o : Option Spelling) (block : Block) (whole l : Option (List ℕ)) (steps : List Step) (clause : List ℕ) (n : ℕ)
    → length steps + 1 ≡ n → SoFar o block whole l (steps ++ record { kind = Add; clause = clause } ∷ [])
    → IfSome whole (HasAddition n)
begins_with o block None l steps clause n count so = tt
begins_with None block (Some bytes) l steps clause n count (none, begun) = absurd (never steps none)
  where
    never : (steps : List Step) → steps ++ record { kind = Add; clause = clause } ∷ [] ≡ [] → ⊥
    never [] e = let no : ⊥ = cc in no
    never (s ∷ steps) e = let no : ⊥ = cc in no
begins_with (Some Text) block (Some bytes) l steps clause n count so =
    inl (steps, clause, known (text_to_come block l) so.come, count)
  where
    known : (rest : Option (List ℕ)) → Some (bytes ++ 10 ∷ []) ≡ before so.text rest
        → BeginsWith bytes (steps ++ record { kind = Add; clause = clause } ∷ [])
    known None e = let no : ⊥ = cc in absurd no
    known (Some rest) e = let k : bytes ++ 10 ∷ [] ≡ so.text ++ rest = cc in inl (so.text, rest, so.spelled, k)
begins_with (Some Binary) block (Some bytes) l steps clause n count so =
    inl (steps, clause, known (bytes_to_come block l) so.come, count)
  where
    known : (rest : Option (List ℕ)) → Some bytes ≡ before so.front rest
        → BeginsWith bytes (steps ++ record { kind = Add; clause = clause } ∷ [])
    known None e = let no : ⊥ = cc in absurd no
    known (Some rest) e = let k : bytes ≡ so.front ++ rest = cc in inr (so.front, rest, so.spelled, k)
