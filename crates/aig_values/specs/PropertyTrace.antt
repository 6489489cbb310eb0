-- The text of a trace with properties: each line of the trace has two more fields at its end, with the values of the bad
-- state properties and of the constraints (our own choice).
-- Example: input 2 is bad, and its negation a constraint: of `1/` the trace is ` 1  /`, and with properties ` 1   1 0/`.
use Rattle.std.specs.Prelude.{◌≡◌, ℕ, List, [], ◌∷◌, ◌++◌, length}
use Rattle.aig_parts.specs.declared.ternary.Tern.{Tern}
use Rattle.aig_parts.specs.declared.raw.Raw.{Raw}
use Rattle.aig_values.specs.Trace.{AreValues, AreLinesBy, IsTraceLine}

-- the line of a frame: the fields of its line in the trace, bad state properties, constraints
pub record IsPropertyLine (raw : Raw) (start : List Tern) (rows : List (List Tern)) (t : ℕ) (line : List ℕ)
    : Type 0 where
  pub fields : List ℕ
  pub bad : List ℕ
  pub constraints : List ℕ
  pub fields_are : IsTraceLine raw start rows t (fields ++ 10 ∷ [])
  pub bad_are : AreValues raw start rows t raw.bad bad
  pub constraints_are : AreValues raw start rows t raw.constraints constraints
  pub line_is : line ≡ fields ++ (32 ∷ (bad ++ (32 ∷ (constraints ++ 10 ∷ []))))

-- the lines of all frames
abbrev pub IsPropertyTrace : Raw → List Tern → List (List Tern) → List ℕ → Type 0
IsPropertyTrace raw start rows text = AreLinesBy (λ t line. IsPropertyLine raw start rows t line) (length rows) text
