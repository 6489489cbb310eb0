-- Bytes on their way to a writer through a block: what was written, and what waits.
-- Example: `ab` waits, `cd` is put: `a` is written, `bcd` waits.
use Rattle.std.specs.Prelude.{◌≡◌, ℕ, ◌+◌, List, ◌++◌, Option, Result, OnOk, OnErr}
use Rattle.aig_bytes.specs.Bytes.{after, failed, IsBeginning}

-- The writer got a part of what waited and of the bytes, and the rest waits. If the call failed it got a prefix.
pub record Gathers {X T E : Type 0} (written : X → Option (List ℕ)) (failures : X → ℕ) (old new : X)
    (held held' bytes : List ℕ)
    (r : Result T E) : Type 0 where
  pub forwarded : List ℕ
  pub wrote : written new ≡ after (written old) forwarded
  pub ok : OnOk r (held ++ bytes ≡ forwarded ++ held')
  pub err : OnErr r (IsBeginning forwarded (held ++ bytes))
  pub count : failures new ≡ failures old + failed r
