-- Sets of numbers by bits, 64 a word (our own choice).
use Rattle.std.specs.Prelude.{◌≡◌, ℕ, ◌/◌, ◌%◌, List, slice_index}
use Rattle.std.specs.Int.{bit_at}

-- the number is there: its bit is 1
unfoldable pub HasBit : List ℕ → ℕ → Type 0
HasBit words n = bit_at (slice_index words (n / 64)) (n % 64) ≡ 1
