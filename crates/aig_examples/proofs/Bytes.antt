-- The examples of the definitions of `aig_bytes`.
use Rattle.std.proofs.Common.{◌≡◌, ℕ, List, [], Option, Some, refl}
use Rattle.std.specs.Prelude.{Result, Ok, Err, codes, false, true}
use Rattle.aig_bytes.specs.Buffered.{Breaks, Forwards, Holding}
use Rattle.aig_bytes.specs.Bytes.{after}
use Rattle.aig_bytes.specs.Gathered.{Gathers}

-- after writing `ok`
after_ok : after (Some []) (codes "ok") ≡ Some (codes "ok")
after_ok = refl

-- A writer is here the bytes that it got, and how many of its calls failed.
abbrev Writer : Type 0
Writer = List ℕ × ℕ

abbrev written : Writer → Option (List ℕ)
written w = Some w.0

abbrev failures : Writer → ℕ
failures w = w.1

-- `ok` is held
abbrev holding_ok : Holding Writer
holding_ok = record { inner = ([], 0); held = codes "ok"; is_broken = false; failures = 0 }

-- a flush that fails after one byte holds `k`
abbrev holding_k : Holding Writer
holding_k = record { inner = (codes "o", 1); held = codes "k"; is_broken = true; failures = 1 }

failed_flush : Forwards written holding_ok holding_k []
    × Breaks {T = Unit {0}} {E = Unit {0}} failures holding_ok holding_k (Err tt)
failed_flush = (
  record { front = codes "o"; all = refl; forwarded = refl },
  record { refuses = λ e. let no : ⊥ = cc in absurd no; breaks = λ e. refl; is_broken = refl },
)

-- and nothing is written any more
nothing_more : (new : Holding Writer) (r : Result (Unit {0}) (Unit {0})) → Breaks failures holding_k new r
    → (new.inner ≡ holding_k.inner) × (new.held ≡ codes "k")
nothing_more new r breaks = let h = breaks.refuses refl in (h.1, h.2)

-- `ab` waits, `cd` is put: `a` is written, `bcd` waits
gathered : Gathers {T = Unit {0}} {E = Unit {0}} written failures ([], 0) (codes "a", 0) (codes "ab") (codes "bcd")
    (codes "cd") (Ok tt)
gathered = record { forwarded = codes "a"; wrote = refl; ok = refl; err = tt; count = refl }
