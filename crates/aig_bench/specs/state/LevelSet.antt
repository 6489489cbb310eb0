-- Sets of numbers by bits, 64 a word (our own choice).
-- Example: in the words 34 and 1: the numbers 1, 5 and 64.
use Rattle.std.specs.Prelude.{◌≡◌, ◌≢◌, ◌↔◌, ℕ, ◌+◌, ◌*◌, ◌/◌, ◌<◌, ◌≤◌, List, length, slice_index, Option, Some, None}
use Rattle.std.specs.Int.{bit_at}
use Rattle.aig_parts.specs.state.Bits.{HasBit}

-- the lowest place of a word from this one on whose bit is set
abbrev pub IsFirstPlace : ℕ → ℕ → Option ℕ → Type 0
IsFirstPlace word from (Some p) =
    (from ≤ p) × (p < 64) × (bit_at word p ≡ 1) × ((q : ℕ) → from ≤ q → q < p → bit_at word q ≡ 1 → ⊥)
IsFirstPlace word from None = (q : ℕ) → from ≤ q → bit_at word q ≡ 1 → ⊥

-- no number from this one on and below that
abbrev pub HasNone : List ℕ → ℕ → ℕ → Type 0
HasNone words from end = (n : ℕ) → from ≤ n → n < end → HasBit words n → ⊥

-- the least number from this one on
abbrev pub IsFirstFrom : List ℕ → ℕ → Option ℕ → Type 0
IsFirstFrom words from (Some n) = (from ≤ n) × HasBit words n × HasNone words from n
IsFirstFrom words from None = (n : ℕ) → from ≤ n → HasBit words n → ⊥

-- the least number from this one on, of its word
abbrev pub IsFirstInWord : List ℕ → ℕ → Option ℕ → Type 0
IsFirstInWord words from (Some n) =
    (from ≤ n) × (n < (from / 64 + 1) * 64) × HasBit words n × HasNone words from n
IsFirstInWord words from None = HasNone words from ((from / 64 + 1) * 64)

-- so many words hold all levels
abbrev pub word_limit : ℕ
word_limit = 65536

-- numbers, and the words that have one
pub record AreFilled (words filled : List ℕ) : Type 0 where
  pub limit : length words ≤ word_limit
  pub room : length words ≤ 64 * length filled
  pub few : length filled ≤ word_limit
  pub each : (w : ℕ) → HasBit filled w ↔ (slice_index words w ≢ 0)

-- levels, the words that have one, and the blocks of words that have one
pub record IsLevelSet (words filled blocks : List ℕ) : Type 0 where
  pub by_words : AreFilled words filled
  pub by_blocks : AreFilled filled blocks
