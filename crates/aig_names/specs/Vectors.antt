-- Bits of vectors: viewers join neighbouring lines X[n], X[n+1], .. and take the first as the most significant bit. So
-- a run of such names is declared from its last to its first. Where the standard is silent, this is our own choice.
-- Example: `a[0] a[1] b` becomes `a[1] a[0] b`.
use Rattle.std.specs.Prelude.{ℕ, ◌+◌, ◌-◌, ◌==◌, ◌&&◌, ◌||◌, not, Bool, false, nat_lt, nat_le, if◌then◌else◌, List, []}
use Rattle.std.specs.Prelude.{◌∷◌, ◌++◌, length, take, slice_index_or, decimal, Option, None, Some, option_map}
use Rattle.std.specs.Str.{all_ascii_digits, bytes_eq}
use Rattle.std.specs.Str.Parse.{digits_value}

-- a number without leading zeros, of 19 digits at most
abbrev pub is_index : List ℕ → Bool
is_index digits =
    all_ascii_digits digits && (nat_lt 0 (length digits) && (nat_le (length digits) 19
    && (length digits == 1 || not (slice_index_or digits 0 0 == 48))))

-- such a number and a `]`
abbrev pub is_index_end : List ℕ → Bool
is_index_end text = is_index (take (length text - 1) text) && slice_index_or text (length text - 1) 0 == 93

-- the byte before a text; before none there is none
abbrev pub put_before : ℕ → List ℕ → List ℕ
put_before b [] = []
put_before b (c ∷ text) = b ∷ (c ∷ text)

-- X[n + 1] for a name X[n]; nothing for another
unfoldable pub next_name : List ℕ → List ℕ
next_name [] = []
next_name (b ∷ text) =
    if b == 91 && is_index_end text
    then 91 ∷ (decimal (digits_value 10 (take (length text - 1) text) + 1) ++ 93 ∷ [])
    else put_before b (next_name text)

-- X and n of a name X[n]
unfoldable pub bit_of : List ℕ → Option (List ℕ × ℕ)
bit_of [] = None
bit_of (b ∷ text) =
    if b == 91 && is_index_end text
    then Some ([], digits_value 10 (take (length text - 1) text))
    else option_map (λ bit. (b ∷ bit.0, bit.1)) (bit_of text)

-- whether a signal's name goes on with a run of bits, which has its last signal first
abbrev pub goes_on : List (ℕ × List ℕ) → ℕ × List ℕ → Bool
goes_on [] signal = false
goes_on (last ∷ run) signal = bytes_eq (next_name last.1) signal.1

-- a run and the signals after it: each longest run of bits from its last to its first
unfoldable pub turned_after : List (ℕ × List ℕ) → List (ℕ × List ℕ) → List (ℕ × List ℕ)
turned_after run [] = run
turned_after run (signal ∷ signals) =
    if goes_on run signal then turned_after (signal ∷ run) signals else run ++ turned_after (signal ∷ []) signals

-- each longest run of bits from its last to its first
abbrev pub turned : List (ℕ × List ℕ) → List (ℕ × List ℕ)
turned signals = turned_after [] signals
