-- What standard output gets of the bytes that a run writes.
-- Example: of `a`, ESC, LF a terminal gets `a\x1b` and LF, and a pipe gets the three bytes.
use Rattle.std.specs.Prelude.{ℕ, Bool, if◌then◌else◌, List}
use Rattle.aig_files.specs.Shown.{shown}

-- a writer to standard output, and whether that is a terminal
pub record ToOutput (W : Type 0) : Type 0 where
  pub inner : W
  pub is_terminal : Bool

-- what it gets of bytes: each as it is, or shown if it is a terminal
abbrev pub as_shown : Bool → List ℕ → List ℕ
as_shown is_terminal bytes = if is_terminal then shown bytes else bytes
