-- What a reader or a writer of std is seen as.
use Rattle.std.specs.Prelude.{ℕ}

-- the reader or writer of std, how many reads may still give bytes, and how many calls failed
pub record Wrapped (T : Type 0) : Type 0 where
  pub inner : T
  pub reads_left : ℕ
  pub failures : ℕ
