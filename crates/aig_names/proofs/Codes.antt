-- Identifier codes: their digits one by one; two signals have two codes, and all their bytes are visible.
use Rattle.std.proofs.Common.{◌≡◌, ℕ, zero, suc, ◌+◌, ◌/◌, ◌%◌, ◌<◌, ◌≤◌, true, false, [], ◌∷◌, Bool, List, All, refl}
use Rattle.std.proofs.Common.{sym, ap, ◌∙◌, arith, inl, inr}
use Rattle.std.specs.Prelude.{if◌then◌else◌, nat_lt}
use Rattle.std.proofs.lemmas.Bool.{cases_lt, lt-ltb, le-ltb, ltb-false, cond-true, cond-false}
use Rattle.std.proofs.lemmas.List.Elements.{All-nil, All-cons}
use Rattle.aig_names.specs.Names.{code_digits, identifier_code}

-- the last digit of a number, and one after which there are more
one_digit : (most n : ℕ) → n < 94 → code_digits (suc most) n ≡ (33 + n % 94) ∷ []
unfolding code_digits
one_digit most n small = rw (lt-ltb n 94 small)

more_digits : (most n : ℕ) → 94 ≤ n → code_digits (suc most) n ≡ (33 + n % 94) ∷ code_digits most (n / 94)
unfolding code_digits
more_digits most n large = rw (le-ltb n 94 large)

no_digits : (most m n : ℕ) → m < most → [] ≡ code_digits most m → ⊥
unfolding code_digits
no_digits zero m n small e = omega arith
no_digits (suc most) m n small e = cc

one_number : (most most' m n : ℕ) → m < most → n < most' → code_digits most m ≡ code_digits most' n → m ≡ n
one_number zero most' m n small small' e = absurd (omega arith)
one_number (suc most) zero m n small small' e = absurd (omega arith)
one_number (suc most) (suc most') m n small small' e =
    elim (cases_lt m 94) [
      | inl lt ↦ elim (cases_lt n 94) [
        | inl lt' ↦
            let same = sym (one_digit most m lt) ∙ e ∙ one_digit most' n lt' in
            let first : 33 + m % 94 ≡ 33 + n % 94 = cc in
            omega arith
        | inr ge' ↦
            let same = sym (one_digit most m lt) ∙ e ∙ more_digits most' n ge' in
            let rest : [] ≡ code_digits most' (n / 94) = cc in
            absurd (no_digits most' (n / 94) 0 (omega arith) rest)
      ]
      | inr ge ↦ elim (cases_lt n 94) [
        | inl lt' ↦
            let same = sym (more_digits most m ge) ∙ e ∙ one_digit most' n lt' in
            let rest : [] ≡ code_digits most (m / 94) = cc in
            absurd (no_digits most (m / 94) 0 (omega arith) rest)
        | inr ge' ↦
            let same = sym (more_digits most m ge) ∙ e ∙ more_digits most' n ge' in
            let first : 33 + m % 94 ≡ 33 + n % 94 = cc in
            let rest : code_digits most (m / 94) ≡ code_digits most' (n / 94) = cc in
            let front = one_number most most' (m / 94) (n / 94) (omega arith) (omega arith) rest in
            omega arith
      ]
    ]

-- two signals have two codes
pub one_signal : (m n : ℕ) → identifier_code m ≡ identifier_code n → m ≡ n
one_signal m n e = one_number (suc m) (suc n) m n (omega arith) (omega arith) e

-- a byte that is seen
abbrev pub IsVisible : ℕ → Type 0
IsVisible b = (33 ≤ b) × (b ≤ 126)

visible_digits : (most n : ℕ) → All IsVisible (code_digits most n)
unfolding code_digits
visible_digits zero n = All-nil IsVisible
visible_digits (suc most) n =
    let digit : IsVisible (33 + n % 94) = (omega arith, omega arith) in
    All-cons IsVisible (33 + n % 94) (if nat_lt n 94 then [] else code_digits most (n / 94)) digit
    (elim (nat_lt n 94) as (λ b. All IsVisible (if b then [] else code_digits most (n / 94))) [
      | true ↦ All-nil IsVisible
      | false ↦ visible_digits most (n / 94)
    ])

pub visible_code : (n : ℕ) → All IsVisible (identifier_code n)
visible_code n = visible_digits (suc n) n

-- ---- digits one by one
digits_step : (j k n : ℕ) (b : Bool) → nat_lt n 94 ≡ b → n < suc j → n < suc k
    → (n / 94 < j → n / 94 < k → code_digits j (n / 94) ≡ code_digits k (n / 94)) → code_digits (suc j) n ≡ code_digits (suc k) n
unfolding code_digits
digits_step j k n true e p q h =
    ap (λ (ds : List ℕ). (33 + n % 94) ∷ ds)
    (cond-true (nat_lt n 94) [] (code_digits j (n / 94)) e ∙ sym (cond-true (nat_lt n 94) [] (code_digits k (n / 94)) e))
digits_step j k n false e p q h =
    let le = ltb-false n 94 e in
    ap (λ (ds : List ℕ). (33 + n % 94) ∷ ds)
    (cond-false (nat_lt n 94) [] (code_digits j (n / 94)) e ∙ h (omega (arith, le, p)) (omega (arith, le, q))
    ∙ sym (cond-false (nat_lt n 94) [] (code_digits k (n / 94)) e))

digits_enough : (j k n : ℕ) → n < j → n < k → code_digits j n ≡ code_digits k n
digits_enough zero k n p q = absurd (omega (arith, p))
digits_enough (suc j) zero n p q = absurd (omega (arith, q))
digits_enough (suc j) (suc k) n p q = digits_step j k n (nat_lt n 94) refl p q (λ a b. digits_enough j k (n / 94) a b)

-- a code of one digit
pub code_last : (n : ℕ) → n < 94 → identifier_code n ≡ (33 + n) ∷ []
unfolding code_digits
code_last n lt =
    let same : n % 94 ≡ n = omega (arith, lt) in
    let none = cond-true (nat_lt n 94) [] (code_digits n (n / 94)) (lt-ltb n 94 lt) in
    λ i. (33 + same i) ∷ none i

-- a code of more
pub code_more : (n : ℕ) → 94 ≤ n → identifier_code n ≡ (33 + n % 94) ∷ identifier_code (n / 94)
unfolding code_digits
code_more n le =
    ap (λ (ds : List ℕ). (33 + n % 94) ∷ ds)
    (cond-false (nat_lt n 94) [] (code_digits n (n / 94)) (le-ltb n 94 le)
    ∙ digits_enough n (suc (n / 94)) (n / 94) (omega (arith, le)) (omega arith))
