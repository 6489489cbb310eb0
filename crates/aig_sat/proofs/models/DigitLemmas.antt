-- Digits of numbers.
use Rattle.std.proofs.Common.{◌≡◌, ℕ, ◌^◌, ◌<◌, ◌≤◌, List, [], ◌∷◌, ◌++◌, length, refl, sym, ap, ◌∙◌, subst}
use Rattle.std.proofs.Common.{arith}
use Rattle.std.specs.Fmt.{decimal}
use Rattle.std.proofs.lemmas.Fmt.{decimal_injective, decimal_nonempty}
use Rattle.std.proofs.lemmas.List.{append-nil}
use Rattle.aig_bytes.proofs.Decimals.{AreDigits, digits-decimal, digit_within, grows, no_zero}

-- more bytes in a number make it no less
pub at_least : (m n : ℕ) (xs : List ℕ) → 0 < m → m < 2 ^ 32 → n < 2 ^ 32 → decimal m ++ xs ≡ decimal n → m ≤ n
at_least m n [] some ms ns e =
    let same : m ≡ n = decimal_injective m n (omega (arith, ms)) (omega (arith, ns)) (sym (append-nil (decimal m)) ∙ e) in
    omega (arith, same)
at_least m n (x ∷ xs) some ms ns e = let more = grows m n x xs some ms ns e in omega (arith, more)

-- ---- the first digit

pub record Head (n : ℕ) : Type 0 where
  pub first : ℕ
  pub rest : List ℕ
  pub is : decimal n ≡ first ∷ rest
  pub digit : (48 ≤ first) × (first ≤ 57)
  pub positive : 0 < n → first ≡ 48 → ⊥

pub decimal_head : (n : ℕ) → n < 2 ^ 32 → Head n
decimal_head n small = by (decimal n) refl
  where
    by : (ds : List ℕ) → decimal n ≡ ds → Head n
    by [] e = absurd (omega (arith, decimal_nonempty n (omega (arith, small)), ap length e))
    by (x ∷ xs) e = record {
      first = x;
      rest = xs;
      is = e;
      digit = digit_within [] xs x (subst AreDigits e (digits-decimal n));
      positive = λ some zero. no_zero n (omega (arith, small)) some xs (e ∙ ap (λ (y : ℕ). y ∷ xs) zero);
    }

pub no_digits : (n : ℕ) → n < 2 ^ 32 → length (decimal n) ≡ 0 → ⊥
no_digits n small e = omega (arith, e, decimal_nonempty n (omega (arith, small)))
