-- A reduced witness: x in place of each value that its failure does not need (our own choice).
-- Example: at the first place the row `x11` is tried; the constraint is x there, so the value stays 1.
use Rattle.std.specs.Prelude.{◌≡◌, ◌⊎◌, ℕ, suc, List, [], ◌∷◌, ◌++◌, length, map, take, drop, Some, slice_get}
use Rattle.aig_parts.specs.declared.ternary.Tern.{Tern}
use Rattle.aig_parts.specs.declared.ternary.Tern.TheVariants.{X}
use Rattle.aig_parts.specs.declared.raw.Raw.{Raw}
use Rattle.aig_sim.specs.declared.witness.verdict.Verdict.TheVariants as verdict
use Rattle.aig_sim.specs.Verdict.{IsVerdict}
use Rattle.aig_sim.specs.WitnessText.{Witness}
use Rattle.aig_values.specs.InputRows.{row_at}

-- the values of a witness in order: what the latches start at, then the inputs' values frame by frame
abbrev pub values_of : Witness → List (List Tern)
values_of w = w.start ∷ w.rows

-- the witness of a property with these values
abbrev pub witness_of : ℕ → List (List Tern) → Witness
witness_of property [] = record { property = property; start = []; rows = [] }
witness_of property (start ∷ rows) = record { property = property; start = start; rows = rows }

-- the first values before a place, position p of list t, x at it, and the second values after it
abbrev pub with_x_between : List (List Tern) → List (List Tern) → ℕ → ℕ → List (List Tern)
with_x_between before after t p =
    take t before ++ (take p (row_at before t) ++ X ∷ drop (suc p) (row_at after t)) ∷ drop (suc t) after

-- the witness that is tried at a place: the new values before it, x at it, and the given ones after it
abbrev pub tried : Witness → Witness → ℕ → ℕ → Witness
tried given new t p = witness_of given.property (with_x_between (values_of new) (values_of given) t p)

-- x where the witness that is tried is confirmed, else the given value
abbrev pub IsKept : Type 0 → Tern → Tern → Type 0
IsKept confirmed given new = (confirmed × (new ≡ X)) ⊎ ((confirmed → ⊥) × (new ≡ given))

-- Each value is x where the witness is confirmed with the new values before it, x at it and the given values after it;
-- else it is the given value. Property and frames are the given ones. A latch with a reset of 0 or 1 starts as given:
-- no witness is confirmed where it starts at x.
pub record IsReduced (raw : Raw) (given new : Witness) : Type 0 where
  pub property : new.property ≡ given.property
  pub shape : map length (values_of new) ≡ map length (values_of given)
  pub values : (t p : ℕ) (a b : Tern) → slice_get (row_at (values_of given) t) p ≡ Some a
      → slice_get (row_at (values_of new) t) p ≡ Some b
      → IsKept (IsVerdict raw (tried given new t p) verdict.Confirmed) a b
