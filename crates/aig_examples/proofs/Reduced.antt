-- The examples of the definitions of `aig_reduce`. The circuit has the inputs 2, 4 and 6 and the gate `8 = 2 AND 4`,
-- which is a bad literal and a constraint. The given witness has the row `111`, and the reduced one the row `11x`.
use Rattle.std.proofs.Common.{◌≡◌, ◌≢◌, inl, inr, [], ◌∷◌, None, refl, arith}
use Rattle.aig_parts.specs.Ternary.{kleene_and}
use Rattle.aig_parts.specs.declared.raw.Raw.{Raw}
use Rattle.aig_parts.specs.declared.ternary.Tern.{Tern}
use Rattle.aig_parts.specs.declared.ternary.Tern.TheVariants.{Zero, One, X}
use Rattle.aig_base.specs.Value as value
use Rattle.aig_base.specs.Value.{Value}
use Rattle.aig_sim.specs.Verdict.{IsBefore, IsNotOne, IsVerdict, VerdictApplies}
use Rattle.aig_sim.specs.WitnessText.{Witness}
use Rattle.aig_sim.specs.declared.witness.verdict.Verdict.{Verdict}
use Rattle.aig_sim.specs.declared.witness.verdict.Verdict.TheVariants as verdict
use Rattle.aig_reduce.specs.Answers.{Answers}
use Rattle.aig_reduce.specs.Irreducible.{Covers}
use Rattle.aig_reduce.specs.Reduction.{tried, IsKept}
use Rattle.aig_reduce.specs.declared.reduction.Reduction.TheVariants as reductions

abbrev example : Raw
example = record {
  max_var = 4;
  inputs = 2 ∷ 4 ∷ 6 ∷ [];
  latches = [];
  outputs = [];
  bad = 8 ∷ [];
  constraints = 8 ∷ [];
  justice = [];
  fairness = [];
  gates = record { lhs = 8; rhs0 = 2; rhs1 = 4 } ∷ [];
  symbols = [];
  comment = None;
}

-- the witness of one row
abbrev of_row : Tern → Tern → Tern → Witness
of_row a b c = record { property = 0; start = []; rows = (a ∷ b ∷ c ∷ []) ∷ [] }

eight_is : (a b c : Tern) → Value example [] ((a ∷ b ∷ c ∷ []) ∷ []) 0 8 (kleene_and a b)
eight_is a b c = value.Value.gate 0 0 (record { lhs = 8; rhs0 = 2; rhs1 = 4 }) a b refl
    (value.Value.input 0 0 2 a (a ∷ b ∷ c ∷ []) refl refl refl)
    (value.Value.input 0 1 4 b (a ∷ b ∷ c ∷ []) refl refl refl)

-- where the gate is not 1, the constraint is not kept
not_kept : (a b c : Tern) → kleene_and a b ≢ One → IsNotOne example (of_row a b c) 0 (8 ∷ []) 0
not_kept a b c other = record {
  literal = 8;
  value = kleene_and a b;
  literal_is = refl;
  value_is = eight_is a b c;
  not_one = other;
}

not_confirmed : (a b c : Tern) → kleene_and a b ≢ One → IsVerdict example (of_row a b c) verdict.Confirmed → ⊥
not_confirmed a b c other v = v.first (verdict.Constraint 0 0) (omega arith) (omega arith, not_kept a b c other)

x_is_not_one : X ≢ One
x_is_not_one e = let no : ⊥ = cc in no

-- `01x`: `constraint 0 0`
constraint_fails : Answers example (of_row Zero One X) (reductions.Refused (verdict.Constraint 0 0))
constraint_fails = (
  λ e. let no : ⊥ = cc in no,
  record {
    applies = (omega arith, not_kept Zero One X (λ e. let no : ⊥ = cc in no));
    first = none;
  },
)
  where
    none : (u : Verdict) → IsBefore u (verdict.Constraint 0 0) → VerdictApplies example (of_row Zero One X) u → ⊥
    none (verdict.Initial p) lt h = let e = h.latch_is in cc
    none (verdict.Constraint t p) (inl lt) h = omega (arith, lt)
    none (verdict.Constraint t p) (inr both) h = let lt = both.1 in omega (arith, lt)
    none verdict.NotBad lt h = omega (arith, lt)
    none verdict.Confirmed lt h = omega (arith, lt)

-- `x1x` covers `11x`, and is not confirmed
covers : Covers (of_row X One X) (of_row One One X)
covers = record { property = refl; values = (tt, ((inl refl, (inr refl, (inl refl, tt))), tt)) }

covering_is_not_confirmed : IsVerdict example (of_row X One X) verdict.Confirmed → ⊥
covering_is_not_confirmed = not_confirmed X One X x_is_not_one

-- at the first place the row `x11` is tried; the constraint is x there, so the value stays 1
first_place : tried (of_row One One One) (of_row One One X) 1 0 ≡ of_row X One One
first_place = refl

first_stays : IsKept (IsVerdict example (of_row X One One) verdict.Confirmed) One One
first_stays = inr (not_confirmed X One One x_is_not_one, refl)
