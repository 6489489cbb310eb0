-- What a buffered writer is seen as, and what becomes of the bytes that it takes.
-- Example: `ok` is held; a flush that fails after one byte holds `k`, and nothing is written any more.
use Rattle.std.specs.Prelude.{◌≡◌, ℕ, ◌+◌, List, ◌++◌, Option, Bool, true, false, Result, IsErr, is_err}
use Rattle.aig_bytes.specs.Bytes.{after, failed}

-- the writer below, the bytes that it is still to get, whether a call of it failed, and how many calls of the buffered
-- writer failed
pub record Holding (W : Type 0) : Type 0 where
  pub inner : W
  pub held : List ℕ
  pub is_broken : Bool
  pub failures : ℕ

-- what was held and what was taken was forwarded, in order, up to what is held now
pub record Forwards {W : Type 0} (written : W → Option (List ℕ)) (old new : Holding W) (taken : List ℕ) : Type 0 where
  pub front : List ℕ
  pub all : old.held ++ taken ≡ front ++ new.held
  pub forwarded : written new.inner ≡ after (written old.inner) front

-- A broken writer refuses, and leaves the writer below and what is held as they are. Any other is broken by the call
-- that fails, and by no other; the writer below failed once in that call.
pub record Breaks {W T E : Type 0} (failures : W → ℕ) (old new : Holding W) (r : Result T E) : Type 0 where
  pub refuses : old.is_broken ≡ true → IsErr r × (new.inner ≡ old.inner) × (new.held ≡ old.held)
  pub breaks : old.is_broken ≡ false → failures new.inner ≡ failures old.inner + failed r
  pub is_broken : new.is_broken ≡ is_err r
