-- What is taken of a proof with hints.
use Rattle.std.proofs.Common.{◌≡◌, ℕ, ◌<◌, ◌≤◌, List, [], ◌∷◌, ◌++◌, Option, sym, ap, subst, ◌∙◌, append_assoc}
use Rattle.std.specs.Prelude.{Bool, false}
use Rattle.std.specs.Fmt.{decimal}
use Rattle.aig_sat.specs.declared.proof.spelling.Spelling.TheVariants.{Text}
use Rattle.aig_sat.specs.declared.proof.step.StepKind.{StepKind}
use Rattle.aig_sat.specs.declared.proof.step.StepKind.TheVariants.{Add, Delete}
use Rattle.aig_sat.specs.model.ModelText.{IsSpace}
use Rattle.aig_sat.specs.proof.HintedText.{ArePositive, HintedStep, SpellsHinted}
use Rattle.aig_sat.specs.proof.ProofText.{Gap, SpellsClause, SpellsStep, last_byte}
use Rattle.aig_sat.specs.proof.Steps.{AreRenamed, Block, TakesText}
use Rattle.aig_sat.specs.proof.state.Taking.{Ends, LeadsNumber, LeadsStep, TakesAddition, TakesNumbers}
use Rattle.aig_sat.proofs.reading.TakingLemmas.{last_then, text_as, text_then}

-- a gap, a number and a space, and the rest
parts : (xs gap digits rest : List ℕ) (b : ℕ) → xs ≡ gap ++ (digits ++ b ∷ []) → xs ++ rest ≡ gap ++ (digits ++ b ∷ rest)
parts xs gap digits rest b e =
    ap (λ (t : List ℕ). t ++ rest) e ∙ append_assoc gap (digits ++ b ∷ []) rest
    ∙ ap (λ (t : List ℕ). gap ++ t) (append_assoc digits (b ∷ []) rest)

module _ (a b c d : Block) (l m n o : Option (List ℕ)) (number read : ℕ) (xs ys : List ℕ) (same : read ≡ number)
    (leads : LeadsNumber a.previous b.previous xs number) (first : TakesText a b l m xs)
    (second : TakesText b c m n ys) where
  -- a step that adds a clause
  pub hinted_adds : (formula : ℕ) (clause hints : List ℕ) (kind : StepKind) → kind ≡ Add → 0 < number
      → ((f : Bool) → LeadsStep f b.previous c.previous ys kind) → TakesAddition formula c d n o clause hints
      → (text : List ℕ) × (spelled : List ℕ)
      × SpellsHinted a.previous text (record { number = read; kind = Add; clause = spelled; hints = hints })
      × AreRenamed formula spelled clause × TakesText a d l o text
  hinted_adds formula clause hints kind adds positive steps (text, more, spelled, is, renamed, is_more, third) =
      let (small, space, (gap, is_gap, e)) = leads in
      let last : last_byte c.previous text ≡ last_byte b.previous (ys ++ text) =
      ap (λ (p : ℕ). last_byte p text) second.previous ∙ last_then b.previous ys text in
      let step : SpellsStep false b.previous (ys ++ text) Add spelled =
      subst (λ (k : StepKind). SpellsStep false b.previous (ys ++ text) k spelled) adds (steps false text spelled is) in
      let whole : List ℕ = gap ++ (decimal number ++ b.previous ∷ ((ys ++ text) ++ more)) in (
        whole,
        spelled,
        subst (λ (v : ℕ). SpellsHinted a.previous whole (record { number = v; kind = Add; clause = spelled; hints = hints }))
            (sym same)
            (SpellsHinted.add number b.previous is_gap positive small space step
            (subst (λ (p : ℕ). SpellsClause false p more hints) last is_more)),
        renamed,
        text_as
            (ap (λ (t : List ℕ). xs ++ t) (sym (append_assoc ys text more))
            ∙ parts xs gap (decimal number) ((ys ++ text) ++ more) b.previous e)
            (text_then first (text_then second third)),
      )

  -- a step that deletes clauses
  pub hinted_deletes : (formula : ℕ) (clause numbers : List ℕ) (kind : StepKind) → kind ≡ Delete → clause ≡ []
      → ((f : Bool) → LeadsStep f b.previous c.previous ys kind) → TakesNumbers c d n o numbers
      → (text : List ℕ) × (spelled : List ℕ)
      × SpellsHinted a.previous text (record { number = read; kind = Delete; clause = spelled; hints = numbers })
      × AreRenamed formula spelled clause × TakesText a d l o text
  hinted_deletes formula clause numbers kind deletes none steps (text, is, positive, third) =
      let (small, space, (gap, is_gap, e)) = leads in
      let step : SpellsStep false b.previous (ys ++ text) Delete numbers =
      subst (λ (k : StepKind). SpellsStep false b.previous (ys ++ text) k numbers) deletes (steps false text numbers is) in
      let whole : List ℕ = gap ++ (decimal number ++ b.previous ∷ (ys ++ text)) in (
        whole,
        [],
        subst (λ (v : ℕ). SpellsHinted a.previous whole (record { number = v; kind = Delete; clause = []; hints = numbers }))
            (sym same) (SpellsHinted.delete number b.previous is_gap small space step positive),
        subst (AreRenamed formula []) (sym none) tt,
        text_as (parts xs gap (decimal number) (ys ++ text) b.previous e) (text_then first (text_then second third)),
      )

-- the clause and the hints
pub addition_taken : (formula : ℕ) (a b c : Block) (l m n : Option (List ℕ)) (spelled clause hints : List ℕ)
    → Ends Text false a b l m spelled → AreRenamed formula spelled clause → Ends Text false b c m n hints
    → TakesAddition formula a c l n clause hints
addition_taken formula a b c l m n spelled clause hints (xs, is, took) meant (ys, more, took') = (
  xs,
  ys,
  spelled,
  is,
  meant,
  subst (λ (p : ℕ). SpellsClause false p ys hints) took.previous more,
  text_then took took',
)

-- the numbers of clauses that are deleted
pub numbers_taken : (a b : Block) (l m : Option (List ℕ)) (numbers : List ℕ) → Ends Text false a b l m numbers
    → ArePositive numbers → TakesNumbers a b l m numbers
numbers_taken a b l m numbers (xs, is, took) positive = (xs, is, positive, took)
