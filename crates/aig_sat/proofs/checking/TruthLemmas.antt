-- A literal and its negation under an assignment.
use Rattle.std.proofs.Common.{◌≡◌, ◌⊎◌, inl, inr, ℕ, ◌+◌, ◌-◌, ◌%◌, Bool, true, false, not, refl, sym, ◌∙◌, ap, arith}
use Rattle.std.proofs.lemmas.Bool.{false≢true}
use Rattle.aig_parts.specs.Literal.{variable, negation, IsNegated}
use Rattle.aig_sat.specs.checker.Clause.{is_true}

pub signs : (l : ℕ) → (l % 2 ≡ 0) ⊎ (l % 2 ≡ 1)
signs l = grind arith

pub true_even : (a : ℕ → Bool) (l : ℕ) → l % 2 ≡ 0 → is_true a l ≡ a (variable l)
true_even a l e = rw e refl

pub true_odd : (a : ℕ → Bool) (l : ℕ) → IsNegated l → is_true a l ≡ not (a (variable l))
true_odd a l e = rw e refl

-- an odd literal is the negation of the one below it
pub true_below : (a : ℕ → Bool) (l : ℕ) → IsNegated l → is_true a l ≡ not (is_true a (l - 1))
true_below a l e =
    let even : (l - 1) % 2 ≡ 0 = grind arith in
    let same : variable l ≡ variable (l - 1) = grind arith in
    true_odd a l e ∙ ap (λ v. not (a v)) same ∙ ap not (sym (true_even a (l - 1) even))

not_twice : (b : Bool) → not (not b) ≡ b
not_twice true = refl
not_twice false = refl

pub true_negation : (a : ℕ → Bool) (l : ℕ) → is_true a (negation l) ≡ not (is_true a l)
true_negation a l = elim (signs l) [
  | inl even ↦
      let is : negation l ≡ l + 1 = rw even refl in
      let odd : (l + 1) % 2 ≡ 1 = grind arith in
      let same : variable (l + 1) ≡ variable l = grind arith in
      ap (is_true a) is ∙ true_odd a (l + 1) odd ∙ ap (λ v. not (a v)) same ∙ ap not (sym (true_even a l even))
  | inr odd ↦
      let is : negation l ≡ l - 1 = rw odd refl in
      ap (is_true a) is ∙ sym (not_twice (is_true a (l - 1))) ∙ ap not (sym (true_below a l odd))
]

pub negation_false : (values : ℕ → Bool) (l : ℕ) → is_true values (negation l) ≡ true → is_true values l ≡ true → ⊥
negation_false values l untrue holds = false≢true (sym (ap not holds) ∙ sym (true_negation values l) ∙ untrue)

pub negation_true : (values : ℕ → Bool) (l : ℕ) → is_true values l ≡ false → is_true values (negation l) ≡ true
negation_true values l untrue = true_negation values l ∙ ap not untrue
