-- The question whether a run keeps the constraints of a circuit (AIGER 1.9, invariant constraints; the formula is our
-- own choice).
-- Example: with the constraint 0, no assignment satisfies it.
use Rattle.std.specs.Prelude.{ℕ, [], ◌∷◌, None}
use Rattle.aig_parts.specs.declared.raw.Raw.{Raw}
use Rattle.aig_cnf.specs.Formula.{Cnf, IsFormulaOf}
use Rattle.aig_cnf.specs.Query.{last}

-- the circuit in which every state is bad; it has no other property, and no name
abbrev pub always_bad : Raw → Raw
always_bad raw =
    record raw { outputs = []; bad = 1 ∷ []; justice = []; fairness = []; symbols = []; comment = None }

-- The formula that a run keeps all constraints at k frames: in that circuit, one reaches the bad state at the last of
-- them.
abbrev pub IsAliveFormulaOf : Raw → ℕ → Cnf → Type 0
IsAliveFormulaOf raw k formula = IsFormulaOf (always_bad raw) (last k 0) formula
