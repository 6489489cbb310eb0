-- Numbers that are read from the buffered bytes.
use Rattle.std.proofs.Common.{◌≡◌, ℕ, zero, suc, ◌+◌, ◌-◌, ◌*◌, ◌<◌, ◌≤◌, true, false, List, ◌∷◌, ◌++◌, length, get_or}
use Rattle.std.proofs.Common.{drop}
use Rattle.std.proofs.Common.{Some, None, Ok, refl, sym, ap, ◌∙◌, append_assoc, arith}
use Rattle.std.proofs.lemmas.Bool.Decides.{nat_tests}
use Rattle.std.proofs.lemmas.List.{drop_more, drop-append-le}
use Rattle.aig_format.specs.state.Reading.{Read, EndsItself, is_digit, digit_at, digits_at, number_then, number_at}
use Rattle.aig_format.specs.state.Reading.{field_at, groups_at}
use Rattle.aig_format.proofs.Steps.{digits_on, digits_done}
use Rattle.aig_format.proofs.Numbers.{byte_again}
use Rattle.aig_format.proofs.Deltas.{last_group, more_group}

-- ---- a number and the byte that ends it

digit_found : (x : ℕ) (rest : List ℕ) → 48 ≤ x → x ≤ 57 → digit_at (x ∷ rest) ≡ Ok (Some (x - 48), rest)
unfolding digit_at
digit_found x rest ge le = let digit : is_digit x ≡ true = grind (arith, nat_tests) in rw digit refl

none_found : (x : ℕ) (rest : List ℕ) → is_digit x ≡ false → digit_at (x ∷ rest) ≡ Ok (None, x ∷ rest)
unfolding digit_at
none_found x rest other = rw other refl

below_digits : (x : ℕ) → x < 48 → is_digit x ≡ false
below_digits x lt = grind (arith, nat_tests)

goes_on : (bound n : ℕ) (rest : List ℕ) → 0 < n → number_then bound (Some n) rest ≡ digits_at bound n rest
unfolding number_then
goes_on bound zero rest some = absurd (omega (arith, some))
goes_on bound (suc n) rest some = refl

-- the first digit is at a place
pub number_starts : (bound at : ℕ) (bytes : List ℕ) → at < length bytes → 48 ≤ get_or bytes at 0 → get_or bytes at 0 ≤ 57
    → number_at bound (drop at bytes) ≡ number_then bound (Some (get_or bytes at 0 - 48)) (drop (at + 1) bytes)
unfolding number_at
number_starts bound at bytes lt ge le = rw (drop_more bytes at 0 lt, digit_found (get_or bytes at 0) (drop (at + 1) bytes) ge le) refl

-- one more digit after those of n
pub number_goes : (bound n at next : ℕ) (bytes : List ℕ) → 0 < n → at < length bytes → next ≡ at + 1 → 48 ≤ get_or bytes at 0
    → get_or bytes at 0 ≤ 57 → n * 10 + (get_or bytes at 0 - 48) ≤ bound
    → number_then bound (Some n) (drop at bytes) ≡ number_then bound (Some (n * 10 + (get_or bytes at 0 - 48))) (drop next bytes)
number_goes bound n at next bytes some lt is ge le within =
    let x = get_or bytes at 0 in
    ap (number_then bound (Some n)) (drop_more bytes at 0 lt) ∙ goes_on bound n (x ∷ drop (at + 1) bytes) some
    ∙ digits_on bound n (x ∷ drop (at + 1) bytes) (x - 48) (drop (at + 1) bytes) (digit_found x (drop (at + 1) bytes) ge le) within
    ∙ sym (goes_on bound (n * 10 + (x - 48)) (drop (at + 1) bytes) (omega (arith, some)))
    ∙ ap (λ (j : ℕ). number_then bound (Some (n * 10 + (x - 48))) (drop j bytes)) (sym is)

number_ends : (bound n x : ℕ) (rest : List ℕ) → is_digit x ≡ false → number_then bound (Some n) (x ∷ rest) ≡ Ok (n, x ∷ rest)
unfolding number_then
number_ends bound zero x rest other = rw (none_found x rest other) refl
number_ends bound (suc n) x rest other = digits_done bound (suc n) (x ∷ rest) (x ∷ rest) (none_found x rest other)

-- the end of the field after the digits of n
pub field_ends : (bound end n at next : ℕ) (all bytes : List ℕ) → at < length bytes → next ≡ at + 1 → get_or bytes at 0 ≡ end → end < 48
    → number_at bound all ≡ number_then bound (Some n) (drop at bytes) → field_at bound end all ≡ Ok (n, drop next bytes)
unfolding field_at
field_ends bound end n at next all bytes lt after is small so_far =
    let x = get_or bytes at 0 in
    let other : is_digit x ≡ false = below_digits x (omega (arith, is, small)) in
    let number : number_at bound all ≡ Ok (n, end ∷ drop next bytes) =
    so_far ∙ ap (number_then bound (Some n)) (drop_more bytes at 0 lt) ∙ number_ends bound n x (drop (at + 1) bytes) other
    ∙ ap (λ (y : ℕ). Ok (n, y ∷ drop (at + 1) bytes)) is ∙ ap (λ (j : ℕ). Ok (n, end ∷ drop j bytes)) (sym after) in
    rw (number, byte_again end (drop next bytes)) refl

-- ---- groups of seven bits

pub group_last : (r at next : ℕ) (bytes : List ℕ) → at < length bytes → next ≡ at + 1 → get_or bytes at 0 < 128
    → groups_at r (drop at bytes) ≡ Ok (get_or bytes at 0, drop next bytes)
group_last r at next bytes lt is small =
    ap (groups_at r) (drop_more bytes at 0 lt) ∙ last_group r (get_or bytes at 0) (drop (at + 1) bytes) small
    ∙ ap (λ (j : ℕ). Ok (get_or bytes at 0, drop j bytes)) (sym is)

pub group_more : (r at next high : ℕ) (bytes rest : List ℕ) → at < length bytes → next ≡ at + 1 → 128 ≤ get_or bytes at 0
    → get_or bytes at 0 < 256 → 0 < high → groups_at r (drop next bytes) ≡ Ok (high, rest)
    → groups_at (suc r) (drop at bytes) ≡ Ok (get_or bytes at 0 - 128 + 128 * high, rest)
group_more r at next high bytes rest lt is ge small some h =
    ap (groups_at (suc r)) (drop_more bytes at 0 lt)
    ∙ more_group r (get_or bytes at 0) high (drop (at + 1) bytes) rest ge small some (ap (λ (j : ℕ). groups_at r (drop j bytes)) (sym is) ∙ h)

-- ---- what is read of the buffered bytes is read of all bytes
