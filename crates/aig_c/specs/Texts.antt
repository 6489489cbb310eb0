-- The texts of a bench that C holds.
-- Example: `examples/two_gates.aag` with `11/`: its rows are the text `11/`.
use Rattle.std.specs.Prelude.{◌≡◌, ℕ, ◌<◌, ◌↔◌, List, length, Option, IfSome, false, Err}
use Rattle.aig_format.specs.declared.reader.header.Format.{Format}
use Rattle.aig_unroll.specs.Answers.{AnswersUnrolling}
use Rattle.aig_unroll.specs.declared.fault.UnrollFault.{UnrollFault}
use Rattle.aig_bench.specs.BenchState.{BenchState, HasTrace}
use Rattle.aig_command.specs.Status.{status_of}
use Rattle.aig_command.specs.declared.run_fault.RunFault.TheVariants as run_faults
use Rattle.aig_commands.specs.Unroll.{IsUnrolledText}
use Rattle.aig_script.specs.BenchFiles.{circuit_text, stimulus_rows_text}
use Rattle.aig_c.specs.Answers.{Fills}
use Rattle.aig_c.specs.Live.{is_open}

abbrev pub IsTrace : BenchState → List ℕ → Type 0
IsTrace state text = HasTrace state.pair text

-- the circuit as text, as it stands
abbrev pub IsCircuitText : BenchState → List ℕ → Type 0
IsCircuitText state text = text ≡ circuit_text state.pair

-- the rows, a line each
abbrev pub IsStimulusText : BenchState → List ℕ → Type 0
IsStimulusText state text = text ≡ stimulus_rows_text state.pair

-- the circuit unrolled for as many frames as there are
abbrev pub IsUnrolling : Format → BenchState → List ℕ → Type 0
IsUnrolling to state text = IsUnrolledText state.pair.circuit (length state.pair.rows) to text

-- the circuit is not unrolled, and not because memory ran out
abbrev pub IsNotUnrolled : BenchState → Type 0
IsNotUnrolled state =
    (fault : UnrollFault) × (status_of (run_faults.Unroll fault) ≡ 1)
    × AnswersUnrolling state.pair.circuit (length state.pair.rows) (Err fault)

-- a text is longer than the room
abbrev pub IsLonger : (List ℕ → Type 0) → ℕ → Type 0
IsLonger Is room = (text : List ℕ) × Is text × (room < length text)

-- what a call for a text returns
abbrev pub FillsText : (List ℕ → Type 0) → Type 0 → ℕ → List ℕ → List ℕ → ℕ → ℕ → Type 0
FillsText Is Refused status old new = Fills Is Refused (IsLonger Is (length old)) status old new

-- what a call for a text of a bench that C holds returns: 255 where there is none
pub record LiveFills (Is : BenchState → List ℕ → Type 0) (Refused : BenchState → Type 0)
    (held held_after : Option BenchState) (status : ℕ) (old new : List ℕ) (old_length new_length : ℕ) : Type 0 where
  pub fills : IfSome held (λ state. FillsText (Is state) (Refused state) status old new old_length new_length)
  pub closed : (status ≡ 255) ↔ (is_open held ≡ false)
  pub kept : held_after ≡ held
  pub room_kept : status ≡ 255 → (new ≡ old) × (new_length ≡ old_length)
