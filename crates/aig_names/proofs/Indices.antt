-- Indices: digits, and the number that they are.
use Rattle.std.proofs.Common.{◌≡◌, ℕ, ◌+◌, ◌-◌, ◌*◌, ◌^◌, ◌<◌, ◌≤◌, true, List, length, take, get_or, arith}
use Rattle.std.specs.Prelude.{IsTrue}
use Rattle.std.specs.Int.{IsInRange}
use Rattle.std.specs.Str.{all_ascii_digits}
use Rattle.std.specs.Str.Parse.{digits_value}
use Rattle.std.proofs.lemmas.Bool.{and_parts, ltb-true, leb-true}
use Rattle.std.proofs.lemmas.Str.{digit_value_digit}
use Rattle.std.proofs.lemmas.Str.Parse.{IsNumeralModel, numerals_by_value, tells_all_ascii_digits, digit_at}
use Rattle.std.proofs.lemmas.Str.Parse.{digits_value_short, digits_value-take-le}
use Rattle.std.proofs.lemmas.Int.Digits.{digits_value_more}
use Rattle.aig_names.specs.Vectors.{is_index}

own : IsNumeralModel (λ ds. all_ascii_digits ds ≡ true) (digits_value 10)
own = numerals_by_value _ tells_all_ascii_digits

-- what a test of an index says
pub index_parts : (digits : List ℕ) → IsTrue (is_index digits) → (all_ascii_digits digits ≡ true) × (0 < length digits) × (length digits ≤ 19)
index_parts digits h =
    let a = and_parts _ _ h in
    let b = and_parts _ _ a.1 in
    let c = and_parts _ _ b.1 in
    (a.0, ltb-true _ _ b.0, leb-true _ _ c.0)

pub digit_is : (digits : List ℕ) (i : ℕ) → all_ascii_digits digits ≡ true → i < length digits
    → (48 ≤ get_or digits i 0) × (get_or digits i 0 ≤ 57)
unfolding own
digit_is digits i h lt =
    let range : IsInRange 48 57 (get_or digits i 0) = digit_at digits i (own.to digits h) lt in
    (range.0, range.1)

-- an index is below 10 ^ 19
pub index_small : (digits : List ℕ) → IsTrue (is_index digits) → digits_value 10 digits < 10 ^ 19
index_small digits h =
    let parts = index_parts digits h in
    digits_value_short own digits 19 parts.0 parts.2

-- one digit more
pub number_more : (digits : List ℕ) (i : ℕ) → IsTrue (is_index digits) → i < length digits
    → (digits_value 10 (take (i + 1) digits) ≡ digits_value 10 (take i digits) * 10 + (get_or digits i 0 - 48))
    × (digits_value 10 (take (i + 1) digits) < 10 ^ 19)
number_more digits i h lt =
    let parts = index_parts digits h in
    let range = digit_is digits i parts.0 lt in
    let value = digit_value_digit (get_or digits i 0) (range.0, range.1) in
    let more = digits_value_more 10 digits i lt in
    let le = digits_value-take-le 10 digits (i + 1) (omega arith) in
    let small = index_small digits h in
    (omega (arith, value, more), omega (arith, le, small))
