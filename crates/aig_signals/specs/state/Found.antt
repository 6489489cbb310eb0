-- The positions that have a name, as far as they were looked at.
use Rattle.std.specs.Prelude.{◌≡◌, ◌⊎◌, ℕ, ◌<◌, ◌≤◌}
use Rattle.aig_signals.specs.declared.property.lookup.Found.{Found}
use Rattle.aig_signals.specs.declared.property.lookup.Found.TheVariants as found

-- one more position keeps its place among the two least
abbrev pub Adds : Found → ℕ → Found → Type 0
Adds found.Nothing n new = new ≡ found.One n
Adds (found.One p) n new = ((n < p) × (new ≡ found.Two n p)) ⊎ ((p ≤ n) × (new ≡ found.Two p n))
Adds (found.Two p q) n new =
    ((n < p) × (new ≡ found.Two n p))
    ⊎ ((p ≤ n) × (n < q) × (new ≡ found.Two p n))
    ⊎ ((q ≤ n) × (new ≡ found.Two p q))
