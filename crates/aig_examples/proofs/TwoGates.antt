-- The parts of `examples/two_gates.aag`, its levels and order, and the values of its literals under the row `11`.
use Rattle.std.proofs.Common.{zero, inl, ℕ, suc, List, [], ◌∷◌, Contains, None, refl, subst, arith}
use Rattle.std.specs.Prelude.{AllPairs}
use Rattle.aig_parts.specs.declared.raw.Raw.{Raw}
use Rattle.aig_parts.specs.declared.ternary.Tern.{Tern}
use Rattle.aig_parts.specs.declared.ternary.Tern.TheVariants.{Zero, One}
use Rattle.aig_base.specs.Grounded as by
use Rattle.aig_base.specs.Grounded.{Level}
use Rattle.aig_base.specs.Order.{ComesBefore, IsCanonicalOrder}
use Rattle.aig_base.specs.Sections.{IsGate}
use Rattle.aig_base.specs.Value as value
use Rattle.aig_base.specs.Value.{Value}
use Rattle.aig_values.specs.state.Frame.{Holds, HoldsAll}

abbrev pub two_gates : Raw
two_gates = record {
  max_var = 4;
  inputs = 2 ∷ 4 ∷ [];
  latches = [];
  outputs = 8 ∷ [];
  bad = [];
  constraints = [];
  justice = [];
  fairness = [];
  gates = record { lhs = 8; rhs0 = 6; rhs1 = 2 } ∷ record { lhs = 6; rhs0 = 2; rhs1 = 4 } ∷ [];
  symbols = [];
  comment = None;
}

-- ---- levels

pub level_of_one : Level two_gates 1 0
level_of_one = by.Level.source 1 (by.IsSource.input 0 2 refl)

pub level_of_two : Level two_gates 2 0
level_of_two = by.Level.source 2 (by.IsSource.input 1 4 refl)

pub level_of_three : Level two_gates 3 1
level_of_three = by.Level.gate 1 (record { lhs = 6; rhs0 = 2; rhs1 = 4 }) 0 0 refl level_of_one level_of_two

pub level_of_four : Level two_gates 4 2
level_of_four = by.Level.gate 0 (record { lhs = 8; rhs0 = 6; rhs1 = 2 }) 1 0 refl level_of_three level_of_one

-- the canonical order of the gates
pub canonical : IsCanonicalOrder two_gates (3 ∷ 4 ∷ [])
canonical = record { gates = λ v. (to v, back v); ordered = before }
  where
    to : (v : ℕ) → Contains (3 ∷ 4 ∷ []) v → IsGate two_gates v
    to v (zero, lt, is) = (1, omega arith, is)
    to v (suc zero, lt, is) = (0, omega arith, is)
    to v (suc (suc k), lt, is) = absurd (omega (arith, lt))

    back : (v : ℕ) → IsGate two_gates v → Contains (3 ∷ 4 ∷ []) v
    back v (zero, lt, is) = (1, omega arith, is)
    back v (suc zero, lt, is) = (0, omega arith, is)
    back v (suc (suc k), lt, is) = absurd (omega (arith, lt))

    before : AllPairs (ComesBefore two_gates) (3 ∷ 4 ∷ [])
    before zero (suc zero) d lt within = (1, 2, level_of_three, level_of_four, inl (omega arith))
    before i zero d lt within = absurd (omega (arith, lt))
    before (suc i) (suc zero) d lt within = absurd (omega (arith, lt))
    before i (suc (suc j)) d lt within = absurd (omega (arith, within))

-- ---- values

-- the one row `11`
abbrev pub row_11 : List (List Tern)
row_11 = (One ∷ One ∷ []) ∷ []

pub first_in_11 : Value two_gates [] row_11 0 2 One
first_in_11 = value.Value.input 0 0 2 One (One ∷ One ∷ []) refl refl refl

pub second_in_11 : Value two_gates [] row_11 0 4 One
second_in_11 = value.Value.input 0 1 4 One (One ∷ One ∷ []) refl refl refl

pub six_in_11 : Value two_gates [] row_11 0 6 One
six_in_11 = value.Value.gate 0 1 (record { lhs = 6; rhs0 = 2; rhs1 = 4 }) One One refl first_in_11 second_in_11

pub eight_in_11 : Value two_gates [] row_11 0 8 One
eight_in_11 = value.Value.gate 0 0 (record { lhs = 8; rhs0 = 6; rhs1 = 2 }) One One refl six_in_11 first_in_11

-- the cells of that row
abbrev pub cells_of_11 : List Tern
cells_of_11 = Zero ∷ One ∷ One ∷ One ∷ One ∷ []

pub held_in_11 : HoldsAll two_gates [] row_11 0 cells_of_11
held_in_11 v (zero, lt, is) = subst (λ (u : ℕ). Holds two_gates [] row_11 0 cells_of_11 u) is
    (record { cell = Zero; cell_is = refl; value_is = value.Value.constant_false 0 })
held_in_11 v (suc zero, lt, is) = subst (λ (u : ℕ). Holds two_gates [] row_11 0 cells_of_11 u) is
    (record { cell = One; cell_is = refl; value_is = first_in_11 })
held_in_11 v (suc (suc zero), lt, is) = subst (λ (u : ℕ). Holds two_gates [] row_11 0 cells_of_11 u) is
    (record { cell = One; cell_is = refl; value_is = second_in_11 })
held_in_11 v (suc (suc (suc zero)), lt, is) = subst (λ (u : ℕ). Holds two_gates [] row_11 0 cells_of_11 u) is
    (record { cell = One; cell_is = refl; value_is = eight_in_11 })
held_in_11 v (suc (suc (suc (suc zero))), lt, is) = subst (λ (u : ℕ). Holds two_gates [] row_11 0 cells_of_11 u) is
    (record { cell = One; cell_is = refl; value_is = six_in_11 })
held_in_11 v (suc (suc (suc (suc (suc k)))), lt, is) = absurd (omega (arith, lt))
