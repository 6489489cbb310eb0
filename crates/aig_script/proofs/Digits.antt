-- Digits of numbers: what may stand in front, and how a number grows by a digit.
use Rattle.std.proofs.Common.{◌≡◌, ℕ, zero, suc, ◌+◌, ◌-◌, ◌*◌, ◌^◌, ◌<◌, ◌≤◌, List, [], ◌∷◌, ◌++◌}
use Rattle.std.proofs.Common.{length, refl, sym, ap, ◌∙◌, subst, append_assoc, arith}
use Rattle.std.specs.Fmt.{decimal}
use Rattle.std.proofs.lemmas.Fmt.{decimal_digit, decimal_nonempty}
use Rattle.std.proofs.lemmas.List.Elements.{All-cons, All-nil, All-push, All-tail}
use Rattle.aig_script.specs.state.Numbers.{EndsNumber}
use Rattle.aig_bytes.proofs.Decimals.{is_no_digit, IsDigit, AreDigits, digits-decimal, digit_within, grows, no_zero}

-- ---- where the digits end

-- what ends a number begins with no digit of another one
other_end : (x y : ℕ) (xs ys : List ℕ) → EndsNumber (x ∷ xs) → AreDigits (y ∷ ys) → x ≡ y → ⊥
other_end x y xs ys ends digits same = is_no_digit x ends (subst IsDigit (sym same) (digit_within [] ys y digits))

-- digits and what ends them are the parts of a list in one way
ends_once : (a b c d : List ℕ) → AreDigits a → AreDigits c → EndsNumber b → EndsNumber d → a ++ b ≡ c ++ d → b ≡ d
ends_once [] b [] d p q s t e = e
ends_once [] [] (y ∷ c) d p q s t e = absurd (let no : ⊥ = cc in no)
ends_once [] (x ∷ b) (y ∷ c) d p q s t e = absurd (other_end x y b c s q (let h : x ≡ y = cc in h))
ends_once (x ∷ a) b [] [] p q s t e = absurd (let no : ⊥ = cc in no)
ends_once (x ∷ a) b [] (y ∷ d) p q s t e = absurd (other_end y x d a t p (let h : y ≡ x = cc in h))
ends_once (x ∷ a) b (y ∷ c) d p q s t e =
    ends_once a b c d (All-tail IsDigit x a p) (All-tail IsDigit y c q) s t (let h : a ++ b ≡ c ++ d = cc in h)

-- digits in front are digits of the number that is in front
begins_number : (a xs c rest : List ℕ) → AreDigits a → EndsNumber rest → a ++ xs ≡ c ++ rest → (ys : List ℕ) × (c ≡ a ++ ys)
begins_number [] xs c rest p t e = (c, refl)
begins_number (x ∷ a) xs [] [] p t e = absurd (let no : ⊥ = cc in no)
begins_number (x ∷ a) xs [] (y ∷ rest) p t e = absurd (other_end y x rest a t p (let h : y ≡ x = cc in h))
begins_number (x ∷ a) xs (y ∷ c) rest p t e =
    let same : y ≡ x = cc in
    let r = begins_number a xs c rest (All-tail IsDigit x a p) t (let h : a ++ xs ≡ c ++ rest = cc in h) in
    (r.0, ap (λ (z : ℕ). z ∷ c) same ∙ ap (λ (t : List ℕ). x ∷ t) r.1)

pub one_end : (m n : ℕ) (xs ys : List ℕ) → EndsNumber xs → EndsNumber ys
    → decimal m ++ xs ≡ decimal n ++ ys → xs ≡ ys
one_end m n xs ys s t e = ends_once (decimal m) xs (decimal n) ys (digits-decimal m) (digits-decimal n) s t e

-- a number that goes on with a digit is part of a greater one
pub grows_on : (m n x : ℕ) (xs rest : List ℕ) → 0 < m → m < 2 ^ 32 → n < 2 ^ 32 → (48 ≤ x) × (x ≤ 57) → EndsNumber rest
    → decimal m ++ x ∷ xs ≡ decimal n ++ rest → m * 10 + (x - 48) ≤ n
grows_on m n x xs rest some ms ns range ends e =
    let a : List ℕ = decimal m ++ x ∷ [] in
    let more = begins_number a xs (decimal n) rest (All-push IsDigit (decimal m) x (digits-decimal m) range) ends
    (append_assoc (decimal m) (x ∷ []) xs ∙ e) in
    grows m n x more.0 some ms ns (sym (more.1 ∙ append_assoc (decimal m) (x ∷ []) more.0))

digit_first : (x : ℕ) (xs ds rest : List ℕ) → 0 < length ds → AreDigits ds → x ∷ xs ≡ ds ++ rest → IsDigit x
digit_first x xs [] rest some digits e = absurd (omega arith)
digit_first x xs (y ∷ ds) rest some digits e = subst IsDigit (let h : y ≡ x = cc in h) (digit_within [] ds y digits)

-- a number begins with a digit
pub digit_in_front : (x n : ℕ) (xs rest : List ℕ) → n < 2 ^ 32 → x ∷ xs ≡ decimal n ++ rest → (48 ≤ x) × (x ≤ 57)
digit_in_front x n xs rest small e = digit_first x xs (decimal n) rest (decimal_nonempty n (omega arith)) (digits-decimal n) e

-- after a 0 in front stands nothing
pub alone : (n : ℕ) (x : ℕ) (xs : List ℕ) → n < 2 ^ 32 → 48 ∷ (x ∷ xs) ≡ decimal n → ⊥
alone zero x xs small e = no (e ∙ decimal_digit 0 (omega arith))
  where
    no : 48 ∷ (x ∷ xs) ≡ 48 ∷ [] → ⊥
    no e = cc
alone (suc n) x xs small e = no_zero (suc n) (omega arith) (omega arith) (x ∷ xs) (sym e)

-- ---- by the first byte

pub zero_in_front : (xs rest : List ℕ) (x : ℕ) → xs ≡ x ∷ rest → 48 ≤ x → x ≤ 48 → xs ≡ decimal 0 ++ rest
zero_in_front xs rest x e ge le =
    let is : x ≡ 48 = omega arith in
    e ∙ ap (λ (y : ℕ). y ∷ rest) is ∙ sym (ap (λ (t : List ℕ). t ++ rest) (decimal_digit 0 (omega arith)))

-- a digit after a 0 in front
pub leading_zero : (x y n : ℕ) (xs rest : List ℕ) → 48 ≤ x → x ≤ 48 → (48 ≤ y) × (y ≤ 57) → n < 2 ^ 32 → EndsNumber rest
    → x ∷ (y ∷ xs) ≡ decimal n ++ rest → ⊥
leading_zero x y n xs rest ge le range small ends e =
    let zero : x ≡ 48 = omega arith in
    let digits : AreDigits (x ∷ (y ∷ [])) = All-cons IsDigit x (y ∷ []) (omega arith, omega arith) (All-cons IsDigit y [] range (All-nil IsDigit)) in
    let more = begins_number (x ∷ (y ∷ [])) xs (decimal n) rest digits ends e in
    alone n y more.0 small (ap (λ (z : ℕ). z ∷ (y ∷ more.0)) (sym zero) ∙ sym more.1)
