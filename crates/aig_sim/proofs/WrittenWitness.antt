-- The text of a witness, as it is written.
use Rattle.std.proofs.Common.{ℕ, zero, suc, ◌+◌, ◌/◌, ◌%◌, ◌^◌, ◌<◌, List, [], ◌∷◌, ◌++◌, sym, subst, arith, inl, inr}
use Rattle.std.proofs.lemmas.Bool.{cases_lt}
use Rattle.std.proofs.lemmas.Fmt.{decimal_digit, decimal_step}
use Rattle.std.specs.Fmt.{decimal}
use Rattle.aig_sim.specs.WitnessText.{IsDecimal}

-- a number's digits spell it
is_decimal : (k n : ℕ) → n < 10 ^ suc k → n < 2 ^ 64 → IsDecimal (decimal n) n
is_decimal zero n lt small =
    subst (λ (ds : List ℕ). IsDecimal ds n) (sym (decimal_digit n (omega arith))) (IsDecimal.digit n (omega arith))
is_decimal (suc k) n lt small = elim (cases_lt n 10) [
  | inl few ↦ subst (λ (ds : List ℕ). IsDecimal ds n) (sym (decimal_digit n few)) (IsDecimal.digit n few)
  | inr many ↦
      subst (λ (ds : List ℕ). IsDecimal ds n) (sym (decimal_step n many small))
      (subst (λ (m : ℕ). IsDecimal (decimal (n / 10) ++ (48 + n % 10) ∷ []) m) (omega arith)
      (IsDecimal.more (decimal (n / 10)) (n / 10) (n % 10) (omega arith) (omega arith)
      (is_decimal k (n / 10) (omega (arith, lt)) (omega arith))))
]

pub spells_position : (n : ℕ) → n < 2 ^ 32 → IsDecimal (decimal n) n
spells_position n lt = is_decimal 9 n (omega arith) (omega arith)
