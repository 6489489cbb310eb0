-- What an assignment says of a circuit: the input values of the unrolled circuit, and so a run.
-- Example: with one input and two frames, variables 1 and 2 are the values of the input.
use Rattle.std.specs.Prelude.{◌≡◌, ◌≢◌, ℕ, ◌<◌, Bool, true, false, List, map, All}
use Rattle.std.specs.List.{range_with_len}
use Rattle.aig_parts.specs.declared.raw.Raw.{Raw}
use Rattle.aig_parts.specs.declared.ternary.Tern.{Tern}
use Rattle.aig_parts.specs.declared.ternary.Tern.TheVariants.{Zero, One, X}
use Rattle.aig_cnf.specs.Formula.{formula_of}
use Rattle.aig_cnf.specs.Query.{within}
use Rattle.aig_sat.specs.checker.Clause.{Satisfies}
use Rattle.aig_refute.specs.UnrolledWitness.{witness_in}
use Rattle.aig_sim.specs.Verdict.{IsVerdict}
use Rattle.aig_sim.specs.declared.witness.verdict.Verdict.TheVariants as verdict
use Rattle.aig_unroll.specs.FrameLiteral.{input_count}

abbrev pub tern_of : Bool → Tern
tern_of false = Zero
tern_of true = One

-- the values of the inputs of the circuit unrolled for k frames: its variables 1, 2, ..
abbrev pub values_of : Raw → ℕ → (ℕ → Bool) → List Tern
values_of raw k values = map (λ v. tern_of (values v)) (range_with_len 1 (input_count raw k))

-- none is unknown
abbrev pub AreKnown : List Tern → Type 0
AreKnown row = All (λ w. w ≢ X) row

-- the witness that the assignment names is confirmed: its start, and its rows up to some frame
abbrev pub NamesWitness : Raw → ℕ → ℕ → (ℕ → Bool) → Type 0
NamesWitness raw k p values =
    (t : ℕ) × (t < k) × IsVerdict raw (witness_in raw k t p (values_of raw k values)) verdict.Confirmed

-- some assignment satisfies the formula, and has these values of the inputs
abbrev pub IsInModel : Raw → List ℕ → ℕ → ℕ → List Tern → Type 0
IsInModel raw order k p row =
    (values : ℕ → Bool) × Satisfies values (formula_of raw order (within k p)).clauses × (values_of raw k values ≡ row)
