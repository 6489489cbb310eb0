-- Decimal numbers as text: their digits, what may stand in front, and how a number grows by a digit.
use Rattle.std.proofs.Common.{◌≡◌, ◌≢◌, ℕ, zero, suc, ◌+◌, ◌-◌, ◌*◌, ◌/◌, ◌%◌, ◌^◌, ◌<◌, ◌≤◌, List, [], ◌∷◌, ◌++◌, All}
use Rattle.std.proofs.Common.{length, take, drop, get_or, sym, ap, ◌∙◌, subst, arith, append_assoc, length-append}
use Rattle.std.proofs.Common.{inl, inr}
use Rattle.std.specs.Prelude.{true, false, if◌then◌else◌, ◌==◌}
use Rattle.std.specs.Char.{is_ascii_digit}
use Rattle.std.specs.Fmt.{decimal, digits, digits_onto, digit_glyph}
use Rattle.std.proofs.lemmas.Bool.Decides.{nat_tests}
use Rattle.std.proofs.lemmas.Bool.{cases_lt, lt-ltb}
use Rattle.std.proofs.lemmas.Fmt.{decimal_digit, decimal_step, decimal_by_steps, decimal_injective, decimal_nonempty}
use Rattle.std.proofs.lemmas.List.{take_all, take-append-le, take-append-drop, drop_more}
use Rattle.std.proofs.lemmas.List.Elements.{All-nil, All-cons, All-head, All-tail, All-weaker}

abbrev pub IsDigit : ℕ → Type 0
IsDigit b = (48 ≤ b) × (b ≤ 57)

abbrev pub AreDigits : List ℕ → Type 0
AreDigits bytes = All IsDigit bytes

-- std's test of a digit
pub is_digit : (x : ℕ) → is_ascii_digit x ≡ true → IsDigit x
is_digit x e = grind (arith, nat_tests)

pub is_no_digit : (x : ℕ) → is_ascii_digit x ≡ false → IsDigit x → ⊥
is_no_digit x e range = let ge = range.0 in let le = range.1 in grind (arith, nat_tests)

-- the bytes of a number are digits
digit_byte : (n : ℕ) → IsDigit (digit_glyph false (n % 10))
digit_byte n =
    let small : n % 10 < 10 = omega arith in
    let digit : digit_glyph false (n % 10) ≡ 48 + n % 10 = rw (lt-ltb (n % 10) 10 small) in
    subst IsDigit (sym digit) (omega arith, omega arith)

digits_are : (k n : ℕ) (acc : List ℕ) → AreDigits acc → AreDigits (digits_onto k 10 false n acc)
digits_are zero n acc h = h
digits_are (suc k) n acc h =
    let bytes : List ℕ = digit_glyph false (n % 10) ∷ acc in
    let more : AreDigits bytes = All-cons IsDigit (digit_glyph false (n % 10)) acc (digit_byte n) h in
    elim (n / 10 == 0) as (λ b. AreDigits (if b then bytes else digits_onto k 10 false (n / 10) bytes)) [
      | true ↦ more
      | false ↦ digits_are k (n / 10) bytes more
    ]

pub digits-decimal : (n : ℕ) → AreDigits (decimal n)
unfolding digits
digits-decimal n = digits_are 64 n [] (All-nil IsDigit)

-- no byte that is no digit is in a number
pub decimal_lacks : (s : ℕ) → (IsDigit s → ⊥) → (n : ℕ) → All (λ b. b ≢ s) (decimal n)
decimal_lacks s other n =
    All-weaker IsDigit (λ b. b ≢ s) (λ b h e. other (subst IsDigit e h)) (decimal n) (digits-decimal n)

pub digit_within : (a xs : List ℕ) (x : ℕ) → AreDigits (a ++ x ∷ xs) → IsDigit x
digit_within [] xs x h = All-head IsDigit x xs h
digit_within (y ∷ a) xs x h = digit_within a xs x (All-tail IsDigit y (a ++ x ∷ xs) h)

-- a byte after the first of a number's bytes is a digit
pub digit_after : (a xs : List ℕ) (x n : ℕ) → a ++ x ∷ xs ≡ decimal n → IsDigit x
digit_after a xs x n e = digit_within a xs x (subst AreDigits (sym e) (digits-decimal n))

-- a number with a digit after it
pub digit_joins : (m x : ℕ) → 0 < m → 48 ≤ x → x ≤ 57 → m * 10 + (x - 48) < 2 ^ 64
    → decimal m ++ x ∷ [] ≡ decimal (m * 10 + (x - 48))
digit_joins m x some ge le small =
    let n : ℕ = m * 10 + (x - 48) in
    let front : n / 10 ≡ m = omega arith in
    let end : 48 + n % 10 ≡ x = omega arith in
    sym (decimal_step n (omega arith) small ∙ (λ i. decimal (front i) ++ (end i ∷ [])))

IsGreatest : ℕ → Type 0
IsGreatest n = n < 2 ^ 64 → (m k : ℕ) → m < 2 ^ 64 → take k (decimal n) ≡ decimal m → m ≤ n

all_greatest : (n m k : ℕ) → n < 2 ^ 64 → m < 2 ^ 64 → length (decimal n) ≤ k → take k (decimal n) ≡ decimal m → m ≤ n
all_greatest n m k ns ms le e =
    let same : n ≡ m = decimal_injective n m ns ms (sym (take_all k (decimal n) le) ∙ e) in
    omega (arith, same)

-- a number is not less than one that its first digits are
first_digits : (n : ℕ) → n < 2 ^ 64 → IsGreatest n
unfolding IsGreatest
first_digits n small = decimal_by_steps (λ m ds. IsGreatest m) one more n small
  where
    one : (n : ℕ) → n < 10 → IsGreatest n
    one n lt ns m zero ms e =
        let some : 0 < length (decimal m) = decimal_nonempty m ms in
        let none : 0 ≡ length (decimal m) = ap length e in
        absurd (omega (arith, some, none))
    one n lt ns m (suc k) ms e =
        all_greatest n m (suc k) ns ms (omega (arith, ap length (decimal_digit n lt))) e

    more : (n : ℕ) (ds : List ℕ) → 10 ≤ n → IsGreatest (n / 10) → IsGreatest n
    more n ds ge h ns m k ms e =
        let front : List ℕ = decimal (n / 10) in
        let last : List ℕ = (48 + n % 10) ∷ [] in
        let step : decimal n ≡ front ++ last = decimal_step n ge ns in
        elim (cases_lt (length front) k) [
          | inr le ↦
              let le' = h (omega arith) m k ms (sym (take-append-le k front last le) ∙ ap (take k) (sym step) ∙ e) in
              omega (arith, le')
          | inl lt ↦ all_greatest n m k ns ms (omega (arith, lt, ap length step, length-append front last)) e
        ]

-- digits after a number make it greater
pub grows : (m n x : ℕ) (xs : List ℕ) → 0 < m → m < 2 ^ 32 → n < 2 ^ 32 → decimal m ++ x ∷ xs ≡ decimal n
    → m * 10 + (x - 48) ≤ n
unfolding IsGreatest
grows m n x xs some ms ns e =
    let range = digit_after (decimal m) xs x n e in
    let next : ℕ = m * 10 + (x - 48) in
    let joined : decimal m ++ x ∷ [] ≡ decimal next = digit_joins m x some range.0 range.1 (omega (arith, range.1)) in
    let split : decimal next ++ xs ≡ decimal n =
    ap (λ (t : List ℕ). t ++ xs) (sym joined) ∙ append_assoc (decimal m) (x ∷ []) xs ∙ e in
    let k : ℕ = length (decimal next) in
    first_digits n (omega arith) (omega arith) next k (omega (arith, range.1))
    (ap (take k) (sym split) ∙ take-append-le k (decimal next) xs (omega arith) ∙ take_all k (decimal next) (omega arith))

-- a positive number does not begin with 0
pub no_zero : (n : ℕ) → n < 2 ^ 64 → 0 < n → (xs : List ℕ) → decimal n ≡ 48 ∷ xs → ⊥
no_zero n small some xs e =
    (decimal_by_steps (λ m ds. 0 < m → (0 < length ds) × ((xs : List ℕ) → ds ≡ 48 ∷ xs → ⊥)) one more n small some).1 xs e
  where
    one : (m : ℕ) → m < 10 → 0 < m → (0 < length ((48 + m) ∷ [])) × ((xs : List ℕ) → (48 + m) ∷ [] ≡ 48 ∷ xs → ⊥)
    one m lt some = (omega arith, λ xs e. let h : 48 + m ≡ 48 = cc in omega (arith, h))

    longer : (ds : List ℕ) (d : ℕ) → 0 < length ds → ((xs : List ℕ) → ds ≡ 48 ∷ xs → ⊥) → (xs : List ℕ)
        → ds ++ d ∷ [] ≡ 48 ∷ xs → ⊥
    longer [] d some never xs e = absurd (omega arith)
    longer (y ∷ ds) d some never xs e = never ds (let h : y ≡ 48 = cc in ap (λ (z : ℕ). z ∷ ds) h)

    more : (m : ℕ) (ds : List ℕ) → 10 ≤ m
        → (0 < m / 10 → (0 < length ds) × ((xs : List ℕ) → ds ≡ 48 ∷ xs → ⊥)) → 0 < m
        → (0 < length (ds ++ ((48 + m % 10) ∷ []))) × ((xs : List ℕ) → ds ++ ((48 + m % 10) ∷ []) ≡ 48 ∷ xs → ⊥)
    more m ds ge h some =
        let p = h (omega arith) in
        (omega (arith, p.0, length-append ds ((48 + m % 10) ∷ [])), longer ds (48 + m % 10) p.0 p.1)

-- a number that was read in part, and the digits that are left
pub left : (first m i : ℕ) (digits all : List ℕ) → i < length digits → decimal first ++ take i digits ≡ decimal m
    → decimal first ++ digits ≡ all → decimal m ++ (get_or digits i 0 ∷ drop (i + 1) digits) ≡ all
left first m i digits all lt read e =
    ap (λ (t : List ℕ). t ++ (get_or digits i 0 ∷ drop (i + 1) digits)) (sym read)
    ∙ append_assoc (decimal first) (take i digits) (get_or digits i 0 ∷ drop (i + 1) digits)
    ∙ ap (λ (t : List ℕ). decimal first ++ (take i digits ++ t)) (sym (drop_more digits i 0 lt))
    ∙ ap (λ (t : List ℕ). decimal first ++ t) (take-append-drop i digits) ∙ e

-- a digit in front
pub one_in_front : (xs rest : List ℕ) (x : ℕ) → xs ≡ x ∷ rest → IsDigit x → xs ≡ decimal (x - 48) ++ rest
one_in_front xs rest x e range =
    let is : 48 + (x - 48) ≡ x = omega (arith, range.0) in
    e ∙ sym (ap (λ (t : List ℕ). t ++ rest) (decimal_digit (x - 48) (omega (arith, range.1))) ∙ ap (λ (y : ℕ). y ∷ rest) is)
