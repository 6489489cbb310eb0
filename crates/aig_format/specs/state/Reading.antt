-- Reading from left to right, with the first refusal that is met: bytes, digits, numbers, deltas.
-- Example: `number_at` of `12 x` is 12, with ` x` left.
use Rattle.std.specs.Prelude.{◌≡◌, ℕ, zero, suc, ◌+◌, ◌-◌, ◌*◌, Bool, true, false, List, [], ◌∷◌, ◌++◌, Option, Some}
use Rattle.std.specs.Prelude.{None}
use Rattle.std.specs.Prelude.{Result, Ok, Err, nat_lt, nat_le, ◌==◌, ◌&&◌, ◌||◌, if◌then◌else◌}
use Rattle.aig_format.specs.Header.{space, line_end}

pub data Refusal : Type 0 where
  text : Refusal
  limit : Refusal

-- what reading gives: a value and the bytes after it, or the first refusal
abbrev pub Read : Type 0 → Type 0
Read A = Result (A × List ℕ) Refusal

-- The bytes that are taken determine what is read: it is the same whatever comes after them.
abbrev pub EndsItself : {A : Type 0} → (List ℕ → Read A) → Type 0
EndsItself {A} read = (bytes rest : List ℕ) (x : A) → read bytes ≡ Ok (x, rest)
    → (front : List ℕ) × (bytes ≡ front ++ rest) × ((more : List ℕ) → read (front ++ more) ≡ Ok (x, more))

infixl 10 ◌>>=◌
abbrev pub ◌>>=◌ : {A B : Type 0} → Result A Refusal → (A → Result B Refusal) → Result B Refusal
(Ok x) >>= f = f x
(Err e) >>= f = Err e

-- ---- bytes

abbrev pub first_of : List ℕ → Option ℕ
first_of [] = None
first_of (x ∷ xs) = Some x

abbrev pub rest_of : List ℕ → List ℕ
rest_of [] = []
rest_of (x ∷ xs) = xs

abbrev pub peek_at : List ℕ → Read (Option ℕ)
peek_at bytes = Ok (first_of bytes, bytes)

abbrev pub next_at : List ℕ → Read (Option ℕ)
next_at bytes = Ok (first_of bytes, rest_of bytes)

abbrev pub is_digit : ℕ → Bool
is_digit x = nat_le 48 x && nat_le x 57

-- the digit at the front, taken if there is one
unfoldable pub digit_at : List ℕ → Read (Option ℕ)
digit_at [] = Ok (None, [])
digit_at (x ∷ xs) = if is_digit x then Ok (Some (x - 48), xs) else Ok (None, x ∷ xs)

-- whether the byte is at the front, taken if it is
unfoldable pub is_next_at : ℕ → List ℕ → Read Bool
is_next_at b [] = Ok (false, [])
is_next_at b (x ∷ xs) = if x == b then Ok (true, xs) else Ok (false, x ∷ xs)

unfoldable pub byte_at : ℕ → List ℕ → Read (Unit {0})
byte_at b bytes = do
  found ← is_next_at b bytes
  if found.0 then Ok (tt, found.1) else Err text

-- ---- numbers

-- the digits after the first ones, which are of n
unfoldable pub digits_at : ℕ → ℕ → List ℕ → Read ℕ
digits_at bound n [] = Ok (n, [])
digits_at bound n (x ∷ xs) =
    if is_digit x
    then (if nat_lt bound (n * 10 + (x - 48)) then Err limit else digits_at bound (n * 10 + (x - 48)) xs)
    else Ok (n, x ∷ xs)

-- no digit may follow a 0
abbrev pub zero_then : Option ℕ → List ℕ → Read ℕ
zero_then None rest = Ok (0, rest)
zero_then (Some d) rest = Err text

unfoldable pub number_then : ℕ → Option ℕ → List ℕ → Read ℕ
number_then bound None rest = Err text
number_then bound (Some zero) rest = do
  second ← digit_at rest
  zero_then second.0 second.1
number_then bound (Some (suc d)) rest = digits_at bound (suc d) rest

unfoldable pub number_at : ℕ → List ℕ → Read ℕ
number_at bound bytes = do
  first ← digit_at bytes
  number_then bound first.0 first.1

-- a number and the byte that ends it
unfoldable pub field_at : ℕ → ℕ → List ℕ → Read ℕ
field_at bound end bytes = do
  n ← number_at bound bytes
  ended ← byte_at end n.1
  Ok (n.0, ended.1)

-- whether a space is at the front, where otherwise the line ends
unfoldable pub more_at : List ℕ → Read Bool
more_at bytes = do
  blank ← is_next_at space bytes
  if blank.0 then Ok (true, blank.1) else (do
    ended ← byte_at line_end blank.1
    Ok (false, ended.1))

-- a number that may be left out, with the space before it
unfoldable pub optional_at : ℕ → List ℕ → Read ℕ
optional_at bound bytes = do
  more ← more_at bytes
  if more.0 then field_at bound line_end more.1 else Ok (0, more.1)

-- ---- deltas

unfoldable pub groups_at : ℕ → List ℕ → Read ℕ
groups_at more [] = Err text
groups_at zero (b ∷ bytes) = if nat_lt b 128 then Ok (b, bytes) else Err text
groups_at (suc more) (b ∷ bytes) =
    if nat_lt b 128 then Ok (b, bytes) else (do
      high ← groups_at more bytes
      if high.0 == 0 || nat_lt 255 b then Err text else Ok (b - 128 + 128 * high.0, high.1))

-- a number from low to high
unfoldable pub delta_at : ℕ → ℕ → List ℕ → Read ℕ
delta_at low high bytes = do
  n ← groups_at 3 bytes
  if nat_lt n.0 low || nat_lt high n.0 then Err text else Ok n
