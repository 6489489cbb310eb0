-- What a call for C asks, by its flag.
use Rattle.std.proofs.Common.{◌≡◌, ℕ, refl, subst}
use Rattle.std.specs.Prelude.{Bool, true, false}
use Rattle.aig_commands.specs.Questions.{Asked}
use Rattle.aig_commands.specs.declared.question.Question.TheVariants as questions

-- a step, or some frames
module _ (P : Asked → Type 0) (Q : Bool → Type 0) (k p : ℕ) (at_step : P (questions.Step k p) → Q true)
    (at_frames : P (questions.Within k p) → Q false) where
  pub by_flag : (step : Bool) (asked : Asked) → (step ≡ true → asked ≡ questions.Step k p) → (step ≡ false → asked ≡ questions.Within k p)
      → P asked → Q step
  by_flag true asked steps within m = at_step (subst P (steps refl) m)
  by_flag false asked steps within m = at_frames (subst P (within refl) m)
