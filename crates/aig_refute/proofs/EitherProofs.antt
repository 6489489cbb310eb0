-- A proof with hints or without, from its first byte on.
use Rattle.std.proofs.Common.{◌≡◌, ℕ, ◌+◌, Bool, true, false, List, [], ◌∷◌, ◌++◌, length, Option, Some, None}
use Rattle.std.proofs.Common.{refl, sym, subst, arith}
use Rattle.std.specs.Prelude.{IfSome}
use Rattle.std.proofs.lemmas.List.{length_push}
use Rattle.aig_sat.specs.declared.proof.spelling.Spelling.{Spelling}
use Rattle.aig_sat.specs.declared.proof.step.StepKind.{StepKind}
use Rattle.aig_sat.specs.declared.proof.step.StepKind.TheVariants.{Add}
use Rattle.aig_sat.specs.proof.HintedText.{HintedStep}
use Rattle.aig_sat.specs.proof.Proofs.{HasAddition, IsProof, Step}
use Rattle.aig_sat.specs.proof.Steps.{StepReader}
use Rattle.aig_refute.specs.state.Reading.{BeginsAll, ReadsEither}
use Rattle.aig_refute.proofs.HintedProofs.{HintedRead, hinted_begins, hinted_more, hinted_none, hinted_whole}
use Rattle.aig_refute.proofs.WholeProofs.{SoFar, begins_with, step_read, whole_read}

-- all steps before this one were read
abbrev pub ReadBefore : Bool → StepReader → Option (List ℕ) → Option (List ℕ) → ℕ → Type 0
ReadBefore true reader whole left n =
    (steps : List HintedStep) × (length steps + 1 ≡ n) × HintedRead reader.block whole left steps
ReadBefore false reader whole left n =
    (steps : List Step) × (length steps + 1 ≡ n) × SoFar reader.spelling reader.block whole left steps

pub none_before : (h : Bool) (reader : StepReader) (whole left : Option (List ℕ)) → reader.spelling ≡ None
    → BeginsAll reader.block whole left → ReadBefore h reader whole left 1
none_before true reader whole left unknown begun = ([], refl, hinted_none reader.block whole left begun)
none_before false reader whole left unknown begun =
    ([], refl, subst (λ (o : Option Spelling). SoFar o reader.block whole left []) (sym unknown) (refl, begun))

-- one more step
pub more_before : (h : Bool) (old new : StepReader) (whole l m : Option (List ℕ)) (n : ℕ) (kind : StepKind)
    → ReadBefore h old whole l n → ReadsEither h old new l m (Some kind) → ReadBefore h new whole m (n + 1)
more_before true old new whole l m n kind (steps, count, so) reads =
    let (clause, more) = hinted_more old new whole l m steps so kind reads in
    let step : HintedStep = record { number = new.number; kind = kind; clause = clause; hints = new.hints } in
    (steps ++ step ∷ [], omega (arith, count, length_push steps step), more)
more_before false old new whole l m n kind (steps, count, so) (reads, stays) =
    let (clause, more) = step_read old new whole l m steps stays kind so reads in
    let step : Step = record { kind = kind; clause = clause } in
    (steps ++ step ∷ [], omega (arith, count, length_push steps step), more)

-- where no step is left, all is a proof
pub whole_before : (h : Bool) (old new : StepReader) (whole l m : Option (List ℕ)) (n : ℕ) → ReadBefore h old whole l n
    → ReadsEither h old new l m None → IfSome whole IsProof
whole_before true old new whole l m n (steps, count, so) reads = hinted_whole old new whole l m steps so reads
whole_before false old new whole l m n (steps, count, so) (reads, stays) =
    whole_read old new whole l m steps stays so reads

-- the next step adds a clause
pub adds_then : (h : Bool) (old new : StepReader) (whole l m : Option (List ℕ)) (n : ℕ) → ReadBefore h old whole l n
    → ReadsEither h old new l m (Some Add) → IfSome whole (HasAddition n)
adds_then true old new whole l m n (steps, count, so) reads =
    let (clause, more) = hinted_more old new whole l m steps so Add reads in
    hinted_begins new.block whole m steps (record { number = new.number; kind = Add; clause = clause; hints = new.hints }) n
    refl count more
adds_then false old new whole l m n (steps, count, so) (reads, stays) =
    let (clause, more) = step_read old new whole l m steps stays Add so reads in
    begins_with new.spelling new.block whole m steps clause n count more
