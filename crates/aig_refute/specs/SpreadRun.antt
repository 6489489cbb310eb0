-- The run of a circuit that a run of its part is, where the part is what a property and the constraints read (our own
-- choice).
-- Example: a property reads the second of two inputs: the row `1` of the part is the row `x1` of the circuit.
use Rattle.std.specs.Prelude.{ℕ, Bool, List, length, map, replicate}
use Rattle.aig_parts.specs.declared.raw.Raw.{Raw}
use Rattle.aig_parts.specs.declared.ternary.Tern.{Tern}
use Rattle.aig_parts.specs.declared.ternary.Tern.TheVariants.{X}
use Rattle.aig_base.specs.Completion.{IsCompletion}
use Rattle.aig_base.specs.Part.{input_marks, latch_marks, part, spread}
use Rattle.aig_base.specs.Value.{start_of}
use Rattle.aig_refute.specs.PartialModels.{named_rows, named_start}
use Rattle.aig_refute.specs.Satisfiable.{step_rows, step_start}
use Rattle.aig_sim.specs.Reached.{Reaches}

-- a latch that is not read starts by its reset
abbrev pub spread_start : (ℕ → Bool) → Raw → List Tern → List Tern
spread_start test raw start = spread (latch_marks test raw) (start_of raw) start

-- an input that is not read is x
abbrev pub spread_rows : (ℕ → Bool) → Raw → List (List Tern) → List (List Tern)
spread_rows test raw rows = map (λ row. spread (input_marks test raw) (replicate (length raw.inputs) X) row) rows

-- the run that values of the variables of the part's formula name reaches property p
abbrev pub NamesSpreadRun : Raw → ℕ → ℕ → ℕ → (ℕ → Bool) → List Tern → Type 0
NamesSpreadRun raw k p bad test values =
    (t : ℕ) × Reaches raw (spread_start test raw (named_start (part raw bad test) k values))
    (spread_rows test raw (named_rows (part raw bad test) k values)) t p

-- the run is the one that an assignment of them names for a step or an induction, with 0 or 1 in place of each x
abbrev pub CompletesSpread : Raw → ℕ → ℕ → (ℕ → Bool) → (ℕ → Bool) → List Tern → List (List Tern) → Type 0
CompletesSpread raw k bad test values start rows =
    IsCompletion (spread_start test raw (step_start (part raw bad test) k values))
    (spread_rows test raw (step_rows (part raw bad test) k values)) start rows
