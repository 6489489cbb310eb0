-- What a variable is, with gates by their place in the canonical order.
-- Example: in `examples/two_gates.aag` variable 4 is gate 1 of that order.
use Rattle.std.specs.Prelude.{ℕ, suc, List, [], ◌∷◌, Bool, Option, Some, None, map, option_map, ◌==◌, if◌then◌else◌}
use Rattle.aig_parts.specs.declared.raw.Raw.{Raw}
use Rattle.aig_parts.specs.Literal.{variable}

-- the first place at which the test gives true
abbrev pub place_of : {A : Type 0} → (A → Bool) → List A → Option ℕ
place_of test [] = None
place_of test (x ∷ xs) = if test x then Some 0 else option_map suc (place_of test xs)

-- an input at a position, a latch at a position, a gate at a place of the canonical order, or none of these
pub data Role : Type 0 where
  constant : Role
  input : (p : ℕ) → Role
  latch : (p : ℕ) → Role
  gate : (q : ℕ) → Role

-- by the places among the inputs, in the order and among the latches: the first of them that there is
abbrev pub first_role : Option ℕ → Option ℕ → Option ℕ → Role
first_role (Some p) gate_place latch_place = input p
first_role None (Some q) latch_place = gate q
first_role None None (Some p) = latch p
first_role None None None = constant

abbrev pub role : Raw → List ℕ → ℕ → Role
role raw order v =
    first_role (place_of (λ u. u == v) (map variable raw.inputs)) (place_of (λ u. u == v) order)
    (place_of (λ u. u == v) (map (λ x. variable x.lit) raw.latches))
