-- A reader that says which bytes it has left, where the type of the reader below it does.
use Rattle.std.specs.Prelude.{ℕ, List, Option, None, Some, ⊤}

-- the reader below as it was at first and as it is, how many reads may still give bytes, and how many calls failed
pub record FromFirst (T : Type 0) : Type 0 where
  pub first : T
  pub inner : T
  pub reads_left : ℕ
  pub failures : ℕ

-- the bytes that are left now, where it was known at first which they are
abbrev pub still_known : Option (List ℕ) → Option (List ℕ) → Option (List ℕ)
still_known None now = None
still_known (Some all) now = now

-- what was known at first stays known
abbrev pub StaysKnown : Option (List ℕ) → Option (List ℕ) → Type 0
StaysKnown None now = ⊤
StaysKnown (Some all) None = ⊥
StaysKnown (Some all) (Some left) = ⊤
