-- What is known of a signal while its values are compared: for the proofs.
use Rattle.std.specs.Prelude.{◌≡◌, ℕ, ◌<◌, ◌≤◌, List, [], Contains}
use Rattle.aig_bench.specs.BenchState.{CircuitAndRows}
use Rattle.aig_prompt.specs.Table.{TableRow}
use Rattle.aig_signals.specs.Lookup.{signal_literals}
use Rattle.aig_signals.specs.declared.signal.Signal.{Signal}
use Rattle.aig_shell.specs.Answers.{ShowsDifference}
use Rattle.aig_shell.specs.Session.{IsFirst}
use Rattle.aig_shell.specs.Tables.{Differs, IsDifference, IsSignalCell}
use Rattle.aig_shell.specs.declared.answers.diff.Cells.{Cells}
use Rattle.aig_shell.specs.declared.answers.diff.Literals.{Literals}
use Rattle.aig_shell.specs.declared.session.Session.{Session}

-- the literals are those of the signal, now and in the run that was read
pub record AreLiterals (session : Session) (signal : Signal) (literals : Literals) : Type 0 where
  pub current : literals.current.items ≡ signal_literals session.run.bench.pair.circuit signal
  pub was : (p : CircuitAndRows) → IsFirst session p → literals.was.items ≡ signal_literals p.circuit signal

-- the texts are those of the signal at the frame, now and in the run that was read
pub record AreTexts (session : Session) (signal : Signal) (t : ℕ) (cells : Cells) : Type 0 where
  pub current : IsSignalCell session.run.bench.pair signal t cells.current.items
  pub was : (p : CircuitAndRows) → IsFirst session p → IsSignalCell p signal t cells.was.items

-- the signal has the same values in both pairs at the frames up to an end
abbrev pub AreSame : CircuitAndRows → CircuitAndRows → Signal → ℕ → ℕ → Type 0
AreSame now was signal first end =
    (t : ℕ) (a b : List ℕ) → first ≤ t → t < end → IsSignalCell now signal t a → IsSignalCell was signal t b → a ≡ b

-- all of these signals have the same values in both pairs at the frames up to an end
abbrev pub AreAllSame : CircuitAndRows → CircuitAndRows → List Signal → ℕ → ℕ → Type 0
AreAllSame now was signals first end = (signal : Signal) → Contains signals signal → AreSame now was signal first end

-- one of these signals differs at one of the frames
abbrev pub OneDiffers : CircuitAndRows → CircuitAndRows → List Signal → ℕ → ℕ → Type 0
OneDiffers now was signals first count =
    (signal : Signal) × Contains signals signal × Differs now was first count signal

-- no difference in these frames means none at all
abbrev pub NoneOutside : CircuitAndRows → CircuitAndRows → ℕ → ℕ → ℕ → Type 0
NoneOutside now was count first n = IsDifference now was first n [] → IsDifference now was 0 count []

-- the text of the signals that differ at one of the frames, with a note above the table
abbrev pub IsDifferenceText : CircuitAndRows → CircuitAndRows → List ℕ → ℕ → ℕ → List ℕ → Type 0
IsDifferenceText now was note first n text =
    (rows : List TableRow) × IsDifference now was first n rows × ShowsDifference note first n rows text
