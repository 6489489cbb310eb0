-- The text of a trace: a line a frame, with the values of the latches, the inputs, the outputs and the next states
-- (our own choice, after the stimulus traces of AIGER 1.0).
-- Example: `examples/two_gates.aag` with `11/`: ` 11 1 /`.
use Rattle.std.specs.Prelude.{◌≡◌, ℕ, zero, suc, List, [], ◌∷◌, ◌++◌, length, map}
use Rattle.std.specs.List.{AllZip}
use Rattle.aig_parts.specs.declared.ternary.Tern.{Tern}
use Rattle.aig_parts.specs.declared.raw.Raw.{Raw}
use Rattle.aig_base.specs.Value.{Value}
use Rattle.aig_values.specs.Characters.{character}

-- a character for the value of each literal
abbrev pub AreValues : Raw → List Tern → List (List Tern) → ℕ → List ℕ → List ℕ → Type 0
AreValues raw start rows t literals text =
    AllZip (λ l b. (w : Tern) × Value raw start rows t l w × (b ≡ character w)) literals text

-- the line of a frame: state, inputs, outputs, next state
pub record IsTraceLine (raw : Raw) (start : List Tern) (rows : List (List Tern)) (t : ℕ) (line : List ℕ) : Type 0 where
  pub state : List ℕ
  pub inputs : List ℕ
  pub outputs : List ℕ
  pub next : List ℕ
  pub state_is : AreValues raw start rows t (map (λ x. x.lit) raw.latches) state
  pub inputs_are : AreValues raw start rows t raw.inputs inputs
  pub outputs_are : AreValues raw start rows t raw.outputs outputs
  pub next_is : AreValues raw start rows t (map (λ x. x.next) raw.latches) next
  pub line_is : line ≡ state ++ (32 ∷ (inputs ++ (32 ∷ (outputs ++ (32 ∷ (next ++ 10 ∷ []))))))

-- the lines of the first n frames, by which line a frame has
abbrev pub AreLinesBy : (ℕ → List ℕ → Type 0) → ℕ → List ℕ → Type 0
AreLinesBy IsLine zero text = text ≡ []
AreLinesBy IsLine (suc t) text =
    (before : List ℕ) × (line : List ℕ) × AreLinesBy IsLine t before × IsLine t line × (text ≡ before ++ line)

abbrev pub AreLines : Raw → List Tern → List (List Tern) → ℕ → List ℕ → Type 0
AreLines raw start rows n text = AreLinesBy (λ t line. IsTraceLine raw start rows t line) n text

-- the lines of all frames
abbrev pub IsTrace : Raw → List Tern → List (List Tern) → List ℕ → Type 0
IsTrace raw start rows text = AreLines raw start rows (length rows) text
