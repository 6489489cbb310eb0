-- What passes through a reader or a writer between two moments.
-- Example: a writer that had `1/` and has `1/ok/`, with no failed call.
use Rattle.std.specs.Prelude.{ℕ, List, Option}

-- how it gives its bytes (those that are left, or those that were written) and how many calls failed, what it was, and
-- what it is
pub record Flow (X : Type 0) : Type 0 where
  pub bytes : X → Option (List ℕ)
  pub failures : X → ℕ
  pub old : X
  pub new : X

abbrev pub flow : {X : Type 0} → (X → Option (List ℕ)) → (X → ℕ) → X → X → Flow X
flow bytes failures old new = record { bytes = bytes; failures = failures; old = old; new = new }

-- what passed up to a moment
abbrev pub until : {X : Type 0} → Flow X → X → Flow X
until all moment = flow all.bytes all.failures all.old moment
