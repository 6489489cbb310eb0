-- What the lines that edit ask for: edits of the bench, in this order (our own choice).
-- Example: `set 12 push 0` in a run of 11 frames is.
use Rattle.std.specs.Prelude.{◌≡◌, ◌≢◌, ◌⊎◌, ℕ, ◌+◌, ◌-◌, ◌^◌, ◌<◌, ◌≤◌, List, [], ◌∷◌, ◌++◌, length, All, Option, None}
use Rattle.std.specs.Prelude.{Some, Result, Ok, Err, Bool, true, decimal, slice_get}
use Rattle.std.specs.List.{AllZip}
use Rattle.aig_parts.specs.declared.raw.Raw.{Raw}
use Rattle.aig_parts.specs.declared.symbols.Kind.TheVariants.{Output}
use Rattle.aig_parts.specs.declared.ternary.Tern.{Tern}
use Rattle.aig_base.specs.Sections.{IsLatchLiteral}
use Rattle.aig_bench.specs.BenchState.{CircuitAndRows}
use Rattle.aig_bench.specs.Edit as edit
use Rattle.aig_bench.specs.Edit.{Edit}
use Rattle.aig_prompt.specs.Value.{Reads}
use Rattle.aig_signals.specs.Lookup.{Means, alone, entry_in}
use Rattle.aig_shell.specs.declared.refusal.Refusal.{Refusal}
use Rattle.aig_shell.specs.declared.refusal.Refusal.TheVariants as refusals
use Rattle.aig_shell.specs.Request.{Request, set, start, add, drop, rewire, append, out}
use Rattle.aig_shell.specs.State.{Leads, set_edits, start_edits, add_edits, drop_edits}

-- the word is a frame of so many
abbrev pub IsFrame : List ℕ → ℕ → ℕ → Type 0
IsFrame word count t = (word ≡ decimal t) × (t < count)

-- `A` or `A-B`: frames of so many, from the first up to the last
abbrev pub AreFrames : List ℕ → ℕ → ℕ → ℕ → Type 0
AreFrames word count first last =
    (((word ≡ decimal first) × (last ≡ first)) ⊎ (word ≡ decimal first ++ 45 ∷ decimal last)) × (first ≤ last)
    × (last < count)

-- the word is a number of frames, below 2^32; one, where there is no word
abbrev pub IsCount : Option (List ℕ) → ℕ → Type 0
IsCount None n = n ≡ 1
IsCount (Some word) n = (word ≡ decimal n) × (0 < n) × (n < 2 ^ 32)

-- the literals are those of the inputs at these positions
abbrev pub ArePositions : Raw → List ℕ → List ℕ → Type 0
ArePositions raw literals positions = AllZip (λ l p. slice_get raw.inputs p ≡ Some l) literals positions

-- the word means inputs, at these positions
abbrev pub MeansInputs : Raw → List ℕ → List ℕ → Type 0
MeansInputs raw word positions = (literals : List ℕ) × Means raw word literals × ArePositions raw literals positions

-- the word means latches, with these literals
abbrev pub MeansLatches : Raw → List ℕ → List ℕ → Type 0
MeansLatches raw word latches = Means raw word latches × All (IsLatchLiteral raw) latches

-- the word is a value of so many bits
abbrev pub IsValue : List ℕ → ℕ → List Tern → Type 0
IsValue word size bits = (length bits ≡ size) × Reads word bits

-- the words of a line that edits name these edits; those of any other line name none
abbrev pub Asks : CircuitAndRows → Request → List Edit → Type 0
Asks p (set frames name value) edits =
    (first : ℕ) × (last : ℕ) × (positions : List ℕ) × (bits : List Tern) × AreFrames frames (length p.rows) first last
    × MeansInputs p.circuit name positions × IsValue value (length positions) bits
    × (edits ≡ set_edits first (last + 1 - first) positions bits)
Asks p (start name value) edits =
    (latches : List ℕ) × (bits : List Tern) × MeansLatches p.circuit name latches × IsValue value (length latches) bits
    × (edits ≡ start_edits latches bits)
Asks p (add count) edits = (n : ℕ) × IsCount count n × (edits ≡ add_edits (length p.circuit.inputs) n)
Asks p (drop count) edits = (n : ℕ) × IsCount count n × (edits ≡ drop_edits n)
Asks p (rewire name side0 side1) edits =
    (l : ℕ) × (r0 : ℕ) × (r1 : ℕ) × Means p.circuit name (alone l) × Means p.circuit side0 (alone r0)
    × Means p.circuit side1 (alone r1)
    × (edits ≡ edit.rewire l r0 r1 ∷ [])
Asks p (append side0 side1) edits =
    (r0 : ℕ) × (r1 : ℕ) × Means p.circuit side0 (alone r0) × Means p.circuit side1 (alone r1)
    × (edits ≡ edit.append_gate r0 r1 ∷ [])
Asks p (out name literal) edits =
    (i : ℕ) × (l : ℕ) × (entry_in p.circuit name Output ≡ Some i) × Means p.circuit literal (alone l)
    × (edits ≡ edit.set_output i l ∷ [])
Asks p _ edits = edits ≡ []

-- the line does all of its edits, each of them possible
abbrev pub Does : CircuitAndRows → Request → CircuitAndRows → Type 0
Does old r new = (edits : List Edit) × Asks old r edits × Leads old edits new

-- no edits are asked for, or not all of them are possible
abbrev pub IsImpossible : CircuitAndRows → Request → Type 0
IsImpossible p r = (new : CircuitAndRows) → Does p r new → ⊥

-- the line does it, or is refused: it is impossible then, or memory is missing, and the pair is as before
abbrev pub EndsEdit : {A : Type 0} → CircuitAndRows → Request → Result A Refusal → CircuitAndRows → Type 0
EndsEdit old r (Ok _) new = Does old r new
EndsEdit old r (Err refusal) new = (refusal ≢ refusals.Memory → IsImpossible old r) × (new ≡ old)

-- whether the circuit is edited, after one edit more of it
abbrev pub has_edited : {A : Type 0} → Bool → Result A Refusal → Bool
has_edited before (Ok _) = true
has_edited before (Err _) = before
