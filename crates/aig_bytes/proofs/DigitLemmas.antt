-- Digits of numbers, and where they are written.
use Rattle.std.proofs.Common.{◌≡◌, ℕ, zero, suc, ◌+◌, ◌*◌, ◌/◌, ◌%◌, ◌^◌, ◌<◌, ◌≤◌, List, [], ◌∷◌, ◌++◌, length, take}
use Rattle.std.proofs.Common.{refl, sym, ap, ◌∙◌, arith, length-append}
use Rattle.std.proofs.lemmas.Fmt.{decimal_digit, decimal_step}
use Rattle.std.proofs.lemmas.List.{take-append-le, take_all}
use Rattle.std.specs.Fmt.{decimal}
use Rattle.aig_bytes.specs.state.Digits.{last_digits}

-- ---- decimal numbers

ten_times : (k : ℕ) → (10 ^ suc k ≡ 10 * 10 ^ k) × (0 < 10 ^ k)
ten_times zero = (grind arith, omega arith)
ten_times (suc k) = (grind arith, omega (arith, (ten_times k).0, (ten_times k).1))

pub decimal_one : (n : ℕ) → n < 10 → decimal n ≡ last_digits 1 n
decimal_one n lt = let e : n ≡ n % 10 = omega arith in decimal_digit n lt ∙ ap (λ (d : ℕ). (48 + d) ∷ []) e

-- a number is spelled by as many of its last digits as it has
pub decimal_digits : (k n : ℕ) → 10 ^ k ≤ n → n < 10 ^ suc k → n < 2 ^ 64 → decimal n ≡ last_digits (suc k) n
decimal_digits zero n lo hi small = decimal_one n (omega arith)
decimal_digits (suc k) n lo hi small =
    let more = ten_times (suc k) in
    let less = ten_times k in
    let rest = decimal_digits k (n / 10) (omega arith) (omega arith) (omega arith) in
    decimal_step n (omega arith) small ∙ ap (λ (ds : List ℕ). ds ++ (48 + n % 10) ∷ []) rest

pub length-last_digits : (k n : ℕ) → length (last_digits k n) ≡ k
length-last_digits zero n = refl
length-last_digits (suc k) n =
    omega (arith, length-append (last_digits k (n / 10)) ((48 + n % 10) ∷ []), length-last_digits k (n / 10))

tenth_of : (n j : ℕ) → n * 10 ^ suc j / 10 ≡ n * 10 ^ j
tenth_of n j =
    let e : n * 10 ^ suc j ≡ n * (10 * 10 ^ j) = ap (λ p. n * p) (ten_times j).0 in
    let f : n * (10 * 10 ^ j) ≡ 10 * (n * 10 ^ j) = omega arith in
    omega (arith, e, f)

-- zeros after a number leave its digits at the front
pub scaled_digits : (k j n : ℕ) → take k (last_digits (k + j) (n * 10 ^ j)) ≡ last_digits k n
scaled_digits k zero n =
    let same : n * 10 ^ 0 ≡ n = omega arith in
    let all : k + 0 ≡ k = omega arith in
    ap (λ (m : ℕ). take k (last_digits (k + 0) m)) same ∙ ap (λ (m : ℕ). take k (last_digits m n)) all
    ∙ take_all k (last_digits k n) (omega (arith, length-last_digits k n))
scaled_digits k (suc j) n =
    let more : k + suc j ≡ suc (k + j) = omega arith in
    let tenth = tenth_of n j in
    let front = last_digits (k + j) (n * 10 ^ suc j / 10) in
    ap (λ (m : ℕ). take k (last_digits m (n * 10 ^ suc j))) more
    ∙ take-append-le k front _ (omega (arith, length-last_digits (k + j) (n * 10 ^ suc j / 10)))
    ∙ ap (λ (m : ℕ). take k (last_digits (k + j) m)) tenth ∙ scaled_digits k j n

-- so does a number of k + 1 digits with j zeros after it
pub scaled_decimal : (k j n : ℕ) → 10 ^ k ≤ n → n < 10 ^ suc k → n < 2 ^ 64
    → take (suc k) (last_digits (suc k + j) (n * 10 ^ j)) ≡ decimal n
scaled_decimal k j n lo hi small = scaled_digits (suc k) j n ∙ sym (decimal_digits k n lo hi small)

pub length-decimal : (k n : ℕ) → 10 ^ k ≤ n → n < 10 ^ suc k → n < 2 ^ 64 → suc k ≡ length (decimal n)
length-decimal k n lo hi small = sym (ap length (decimal_digits k n lo hi small) ∙ length-last_digits (suc k) n)
