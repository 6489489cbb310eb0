-- Digits that are found side by side in one word.
use Rattle.std.proofs.Common.{◌≡◌, ℕ, ◌+◌, ◌-◌, ◌*◌, ◌/◌, ◌%◌, ◌<◌, bit_and, [], ◌∷◌, ap, ◌∙◌, arith}
use Rattle.std.proofs.lemmas.Nat.{and_block, and_mask}
use Rattle.std.specs.Int.{w64, to_le_bytes}
use Rattle.aig_bytes.specs.state.Digits.{last_digits}

-- the hundreds of a number below 10000 in the lowest 32 bits, and what is above them
hundreds_more : (rest p m : ℕ) → p < 10000
    → bit_and ((rest * 4294967296 + p) * 5243 / 524288) (m * 4294967296 + 127)
    ≡ bit_and (rest * 5243 / 524288) m * 4294967296 + p / 100
hundreds_more rest p m small =
    let low = rest * 5243 % 524288 * 8192 + p * 5243 / 524288 in
    let whole : (rest * 4294967296 + p) * 5243 / 524288 ≡ rest * 5243 / 524288 * 4294967296 + low = omega arith in
    let digits : low % 128 ≡ p / 100 = omega arith in
    ap (λ x. bit_and x (m * 4294967296 + 127)) whole
    ∙ and_block 32 (rest * 5243 / 524288) m low 127 (omega arith) (omega arith)
    ∙ ap (λ x. bit_and (rest * 5243 / 524288) m * 4294967296 + x) (and_mask low 7 ∙ digits)

pub hundreds_of : (a b : ℕ) → a < 10000 → b < 10000
    → bit_and ((a + 4294967296 * b) * 5243 / 524288) 545460846719 ≡ a / 100 + 4294967296 * (b / 100)
hundreds_of a b small small' =
    let turned : a + 4294967296 * b ≡ b * 4294967296 + a = omega arith in
    let last : b * 5243 / 524288 % 128 ≡ b / 100 = omega arith in
    ap (λ x. bit_and (x * 5243 / 524288) 545460846719) turned ∙ hundreds_more b a 127 small
    ∙ ap (λ x. x * 4294967296 + a / 100) (and_mask (b * 5243 / 524288) 7 ∙ last) ∙ omega arith

-- the tens of a number below 100 in the lowest 16 bits, and what is above them
tens_more : (rest p m : ℕ) → p < 100
    → bit_and ((rest * 65536 + p) * 103 / 1024) (m * 65536 + 15) ≡ bit_and (rest * 103 / 1024) m * 65536 + p / 10
tens_more rest p m small =
    let low = rest * 103 % 1024 * 64 + p * 103 / 1024 in
    let whole : (rest * 65536 + p) * 103 / 1024 ≡ rest * 103 / 1024 * 65536 + low = omega arith in
    let digit : low % 16 ≡ p / 10 = omega arith in
    ap (λ x. bit_and x (m * 65536 + 15)) whole
    ∙ and_block 16 (rest * 103 / 1024) m low 15 (omega arith) (omega arith)
    ∙ ap (λ x. bit_and (rest * 103 / 1024) m * 65536 + x) (and_mask low 4 ∙ digit)

pub tens_of : (a b c d : ℕ) → a < 100 → b < 100 → c < 100 → d < 100
    → bit_and ((a + 65536 * b + 4294967296 * c + 281474976710656 * d) * 103 / 1024) 4222189076152335
    ≡ a / 10 + 65536 * (b / 10) + 4294967296 * (c / 10) + 281474976710656 * (d / 10)
tens_of a b c d la lb lc ld =
    let turned : a + 65536 * b + 4294967296 * c + 281474976710656 * d ≡ ((d * 65536 + c) * 65536 + b) * 65536 + a = omega arith in
    let last : bit_and (d * 103 / 1024) 15 ≡ d / 10 = and_mask (d * 103 / 1024) 4 ∙ omega arith in
    ap (λ x. bit_and (x * 103 / 1024) 4222189076152335) turned
    ∙ tens_more ((d * 65536 + c) * 65536 + b) a 64425492495 la
    ∙ ap (λ x. x * 65536 + a / 10) (tens_more (d * 65536 + c) b 983055 lb
    ∙ ap (λ x. x * 65536 + b / 10) (tens_more d c 15 lc
    ∙ ap (λ x. x * 65536 + c / 10) last)) ∙ omega arith

-- eight bytes in one word
word_bytes : (w a b c d e f g h : ℕ)
    → w ≡ a + 256 * b + 65536 * c + 16777216 * d + 4294967296 * e + 1099511627776 * f + 281474976710656 * g + 72057594037927936 * h
    → a < 256 → b < 256 → c < 256 → d < 256 → e < 256 → f < 256 → g < 256 → h < 256
    → to_le_bytes w64 w ≡ a ∷ b ∷ c ∷ d ∷ e ∷ f ∷ g ∷ h ∷ []
word_bytes w a b c d e f g h is la lb lc ld le lf lg lh =
    let a' : w % 256 ≡ a = omega arith in
    let b' : w / 256 % 256 ≡ b = omega arith in
    let c' : w / 65536 % 256 ≡ c = omega arith in
    let d' : w / 16777216 % 256 ≡ d = omega arith in
    let e' : w / 4294967296 % 256 ≡ e = omega arith in
    let f' : w / 1099511627776 % 256 ≡ f = omega arith in
    let g' : w / 281474976710656 % 256 ≡ g = omega arith in
    let h' : w / 72057594037927936 % 256 ≡ h = omega arith in
    λ i. a' i ∷ b' i ∷ c' i ∷ d' i ∷ e' i ∷ f' i ∷ g' i ∷ h' i ∷ []

-- the tens of four pairs of digits
pub tens_of_pairs : (n p : ℕ) → n < 100000000
    → p ≡ n / 1000000 + 65536 * (n / 10000 % 100) + 4294967296 * (n / 100 % 100) + 281474976710656 * (n % 100)
    → bit_and (p * 103 / 1024) 4222189076152335
    ≡ n / 1000000 / 10 + 65536 * (n / 10000 % 100 / 10) + 4294967296 * (n / 100 % 100 / 10) + 281474976710656 * (n % 100 / 10)
tens_of_pairs n p small e =
    ap (λ x. bit_and (x * 103 / 1024) 4222189076152335) e
    ∙ tens_of (n / 1000000) (n / 10000 % 100) (n / 100 % 100) (n % 100) (omega arith) (omega arith) (omega arith) (omega arith)

word_sum : (a b c d p t w : ℕ) → p ≡ a + 65536 * b + 4294967296 * c + 281474976710656 * d
    → t ≡ a / 10 + 65536 * (b / 10) + 4294967296 * (c / 10) + 281474976710656 * (d / 10)
    → w ≡ 3472328296227680304 + (t + 256 * (p - 10 * t))
    → w ≡ 48 + a / 10 + 256 * (48 + a % 10) + 65536 * (48 + b / 10) + 16777216 * (48 + b % 10)
    + 4294967296 * (48 + c / 10) + 1099511627776 * (48 + c % 10) + 281474976710656 * (48 + d / 10)
    + 72057594037927936 * (48 + d % 10)
word_sum a b c d p t w e tens is = omega arith

-- eight digits in one word
pub eight_word : (n p t w : ℕ) → n < 100000000
    → p ≡ n / 1000000 + 65536 * (n / 10000 % 100) + 4294967296 * (n / 100 % 100) + 281474976710656 * (n % 100)
    → t ≡ n / 1000000 / 10 + 65536 * (n / 10000 % 100 / 10) + 4294967296 * (n / 100 % 100 / 10) + 281474976710656 * (n % 100 / 10)
    → w ≡ 3472328296227680304 + (t + 256 * (p - 10 * t)) → to_le_bytes w64 w ≡ last_digits 8 n
eight_word n p t w small whole tens is =
    let a : 48 + n / 1000000 / 10 ≡ 48 + n / 10 / 10 / 10 / 10 / 10 / 10 / 10 % 10 = omega arith in
    let b : 48 + n / 1000000 % 10 ≡ 48 + n / 10 / 10 / 10 / 10 / 10 / 10 % 10 = omega arith in
    let c : 48 + n / 10000 % 100 / 10 ≡ 48 + n / 10 / 10 / 10 / 10 / 10 % 10 = omega arith in
    let d : 48 + n / 10000 % 100 % 10 ≡ 48 + n / 10 / 10 / 10 / 10 % 10 = omega arith in
    let e : 48 + n / 100 % 100 / 10 ≡ 48 + n / 10 / 10 / 10 % 10 = omega arith in
    let f : 48 + n / 100 % 100 % 10 ≡ 48 + n / 10 / 10 % 10 = omega arith in
    let g : 48 + n % 100 / 10 ≡ 48 + n / 10 % 10 = omega arith in
    let h : 48 + n % 100 % 10 ≡ 48 + n % 10 = omega arith in
    let sum = word_sum (n / 1000000) (n / 10000 % 100) (n / 100 % 100) (n % 100) p t w whole tens is in
    word_bytes w (48 + n / 1000000 / 10) (48 + n / 1000000 % 10) (48 + n / 10000 % 100 / 10) (48 + n / 10000 % 100 % 10) (48 + n / 100 % 100 / 10) (48 + n / 100 % 100 % 10) (48 + n % 100 / 10) (48 + n % 100 % 10) sum (omega arith) (omega arith) (omega arith) (omega arith) (omega arith) (omega arith) (omega arith) (omega arith)
    ∙ (λ i. a i ∷ b i ∷ c i ∷ d i ∷ e i ∷ f i ∷ g i ∷ h i ∷ [])
