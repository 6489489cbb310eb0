-- What tables of values hold: the values of names now, and those of the run that was read (our own choice).
-- Example: a row of `count` has a cell for each frame.
use Rattle.std.specs.Prelude.{◌≡◌, ◌≢◌, ◌⊎◌, ℕ, ◌+◌, ◌<◌, ◌≤◌, List, [], ◌∷◌, length, map, Option, Some}
use Rattle.std.specs.Prelude.{slice_get}
use Rattle.std.specs.List.{AllZip, range_with_len}
use Rattle.aig_parts.specs.declared.ternary.Tern.{Tern}
use Rattle.aig_bench.specs.BenchState.{CircuitAndRows, HasValue}
use Rattle.aig_prompt.specs.Table.{TableRow}
use Rattle.aig_signals.specs.Lookup.{Means, signal_literals}
use Rattle.aig_signals.specs.Signals.{signals_of}
use Rattle.aig_signals.specs.Value.{table_text}
use Rattle.aig_signals.specs.declared.signal.Signal.{Signal}

-- the values of these literals at the frame
abbrev pub AreBits : CircuitAndRows → ℕ → List ℕ → List (Option Tern) → Type 0
AreBits p t literals bits = (values : List Tern) × AllZip (HasValue p t) literals values × (bits ≡ map Some values)

-- the text is that of the values of these literals at the frame
abbrev pub IsCell : CircuitAndRows → List ℕ → ℕ → List ℕ → Type 0
IsCell p literals t cell = (bits : List (Option Tern)) × AreBits p t literals bits × (cell ≡ table_text bits)

-- so many cells from a frame on, with the values of these literals
abbrev pub AreCells : CircuitAndRows → List ℕ → ℕ → ℕ → List (List ℕ) → Type 0
AreCells p literals first count cells = AllZip (IsCell p literals) (range_with_len first count) cells

-- the row of a name that was asked for
abbrev pub IsRowOf : CircuitAndRows → ℕ → ℕ → List ℕ → TableRow → Type 0
IsRowOf p first count name row =
    (literals : List ℕ) × Means p.circuit name literals × (row.name ≡ name) × AreCells p literals first count row.cells

-- the rows of all names that were asked for, in this order
abbrev pub IsShown : CircuitAndRows → ℕ → ℕ → List (List ℕ) → List TableRow → Type 0
IsShown p first count names rows = AllZip (IsRowOf p first count) names rows

-- the text of the values of these literals; a dot where the pair has no such frame
abbrev pub IsCellOrDot : CircuitAndRows → List ℕ → ℕ → List ℕ → Type 0
IsCellOrDot p literals t cell =
    ((t < length p.rows) × IsCell p literals t cell) ⊎ ((length p.rows ≤ t) × (cell ≡ 46 ∷ []))

-- the text of the values that a signal has in a pair
abbrev pub IsSignalCell : CircuitAndRows → Signal → ℕ → List ℕ → Type 0
IsSignalCell p signal t cell = IsCellOrDot p (signal_literals p.circuit signal) t cell

-- what is below a text: `=` for the same, else the old one
abbrev pub IsBelow : List ℕ → List ℕ → List ℕ → Type 0
IsBelow cell old below = ((old ≡ cell) × (below ≡ 61 ∷ [])) ⊎ ((old ≢ cell) × (below ≡ old))

-- two texts at a frame, of which the second is `=` where they are the same
abbrev pub AreTwoCells : CircuitAndRows → CircuitAndRows → Signal → ℕ → List ℕ → List ℕ → Type 0
AreTwoCells now was signal t cell below =
    (old : List ℕ) × IsSignalCell now signal t cell × IsSignalCell was signal t old × IsBelow cell old below

-- the signal has other values in the second pair at one of the frames
abbrev pub Differs : CircuitAndRows → CircuitAndRows → ℕ → ℕ → Signal → Type 0
Differs now was first count signal =
    (t : ℕ) × (a : List ℕ) × (b : List ℕ) × (first ≤ t) × (t < first + count) × IsSignalCell now signal t a
    × IsSignalCell was signal t b
    × (a ≢ b)

-- the two rows of a signal
pub record AreTwoRows (now was : CircuitAndRows) (first count : ℕ) (signal : Signal) (above below : TableRow) : Type
    0 where
  pub name : above.name ≡ signal.name
  pub sizes : (length above.cells ≡ count) × (length below.cells ≡ count)
  pub cells : (k : ℕ) (a b : List ℕ) → slice_get above.cells k ≡ Some a → slice_get below.cells k ≡ Some b
      → AreTwoCells now was signal (first + k) a b

-- two rows for each of these signals that differs at one of the frames, in their order, and none for the others
unfoldable pub AreRowsOf : CircuitAndRows → CircuitAndRows → ℕ → ℕ → List Signal → List TableRow → Type 0
AreRowsOf now was first count [] rows = rows ≡ []
AreRowsOf now was first count (signal ∷ signals) rows =
    ((Differs now was first count signal → ⊥) × AreRowsOf now was first count signals rows)
    ⊎ ((above : TableRow) × (below : TableRow) × (more : List TableRow) × Differs now was first count signal
    × AreTwoRows now was first count signal above below × AreRowsOf now was first count signals more
    × (rows ≡ above ∷ (below ∷ more)))

-- two rows for each signal that differs at one of the frames, in the order of the circuit
abbrev pub IsDifference : CircuitAndRows → CircuitAndRows → ℕ → ℕ → List TableRow → Type 0
IsDifference now was first count rows = AreRowsOf now was first count (signals_of now.circuit) rows
