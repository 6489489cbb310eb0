-- Values that a run needs, whichever others become x.
use Rattle.std.specs.Prelude.{◌≡◌, ◌≢◌, ℕ, ◌+◌, ◌-◌, ◌*◌, ◌<◌, List, Bool, ◌∷◌, length, Some, slice_get}
use Rattle.std.specs.List.{AllZip}
use Rattle.aig_parts.specs.declared.gate.Gate.{Gate}
use Rattle.aig_parts.specs.declared.ternary.Tern.{Tern}
use Rattle.aig_parts.specs.declared.ternary.Tern.TheVariants.{One, X}
use Rattle.aig_parts.specs.declared.raw.Raw.{Raw}
use Rattle.aig_base.specs.Value.{Value, start_of}
use Rattle.aig_base.specs.state.Marks.{IsMarked}
use Rattle.aig_sim.specs.WitnessText.{Witness}
use Rattle.aig_values.specs.InputRows.{row_at}
use Rattle.aig_bench.specs.BenchState.{CircuitAndRows}
use Rattle.aig_reduce.specs.declared.needed.Known.{Known}
use Rattle.aig_reduce.specs.Irreducible.{IsSameOrX}
use Rattle.aig_reduce.specs.Reduction.{values_of}
use Rattle.aig_reduce.specs.state.Reducing.{Confirms}

-- each of these gates is one of the circuit
abbrev pub AreItsGates : Raw → List Gate → Type 0
AreItsGates raw gates = (i : ℕ) (g : Gate) → slice_get gates i ≡ Some g → (q : ℕ) × (slice_get raw.gates q ≡ Some g)

-- a run with the values of the pair or x in which all constraints are 1, and at the last frame the property
pub record StillReaches (p : CircuitAndRows) (property : ℕ) (start : List Tern) (rows : List (List Tern)) : Type 0 where
  pub starts : AllZip IsSameOrX start (start_of p.circuit)
  pub inputs : AllZip (AllZip IsSameOrX) rows p.rows
  pub constrained : (t i l : ℕ) → t < length p.rows → slice_get p.circuit.constraints i ≡ Some l
      → Value p.circuit start rows t l One
  pub bad : (l : ℕ) → slice_get p.circuit.bad property ≡ Some l → Value p.circuit start rows (length p.rows - 1) l One

-- in no such run is the variable x at the frame
abbrev pub IsNeeded : CircuitAndRows → ℕ → ℕ → ℕ → Type 0
IsNeeded p property t v =
    (start : List Tern) (rows : List (List Tern)) → StillReaches p property start rows
    → Value p.circuit start rows t (2 * v) X → ⊥

abbrev pub AreNeeded : CircuitAndRows → ℕ → ℕ → List Bool → Type 0
AreNeeded p property t marks = (v : ℕ) → IsMarked marks v → IsNeeded p property t v

-- marks were added, only of what is needed at the frame
abbrev pub AddsNeeded : CircuitAndRows → ℕ → ℕ → List Bool → List Bool → Type 0
AddsNeeded p property t old new = AreNeeded p property t old → AreNeeded p property t new

-- in no such run is a value of these rows x that is not x in them
abbrev pub AreNeededInputs : CircuitAndRows → ℕ → List (List Tern) → Type 0
AreNeededInputs p property needed =
    (t i : ℕ) (w : Tern) → slice_get (row_at needed t) i ≡ Some w → w ≢ X
    → (start : List Tern) (rows : List (List Tern)) → StillReaches p property start rows
    → slice_get (row_at rows t) i ≡ Some X → ⊥

abbrev pub AreNeededStarts : CircuitAndRows → ℕ → List Tern → Type 0
AreNeededStarts p property needed =
    (i : ℕ) (w : Tern) → slice_get needed i ≡ Some w → w ≢ X
    → (start : List Tern) (rows : List (List Tern)) → StillReaches p property start rows
    → slice_get start i ≡ Some X → ⊥

-- in no such run is a variable x where these rows, a value a variable, are not x
abbrev pub AreNeededCells : CircuitAndRows → ℕ → List (List Tern) → Type 0
AreNeededCells p property cells =
    (t v : ℕ) (w : Tern) → slice_get (row_at cells t) v ≡ Some w → w ≢ X → IsNeeded p property t v

-- the value at this place of the rows is not x
abbrev pub IsKnownAt : List (List Tern) → ℕ → ℕ → Type 0
IsKnownAt rows t i = (w : Tern) × (w ≢ X) × (slice_get (row_at rows t) i ≡ Some w)

abbrev pub IsListed : List ℕ → ℕ → Type 0
IsListed list v = (k : ℕ) × (slice_get list k ≡ Some v)

-- the variable is x at frame t in each such run that has x at position i of list m: the starts, or else inputs
abbrev pub Follows : CircuitAndRows → ℕ → ℕ → ℕ → ℕ → ℕ → Type 0
Follows p property t m i v =
    (start : List Tern) (rows : List (List Tern)) → StillReaches p property start rows
    → slice_get (row_at (start ∷ rows) m) i ≡ Some X → Value p.circuit start rows t (2 * v) X

abbrev pub AreFollowing : CircuitAndRows → ℕ → ℕ → ℕ → ℕ → List ℕ → Type 0
AreFollowing p property t m i list = (v : ℕ) → IsListed list v → Follows p property t m i v

-- variables were listed that follow where those before do
abbrev pub ListsFollowing : CircuitAndRows → ℕ → List ℕ → List ℕ → Type 0
ListsFollowing p t old new =
    (property m i : ℕ) → AreFollowing p property t m i old → AreFollowing p property t m i new

-- a variable of the list is not x in the row of the frame
abbrev pub ListsKnown : List (List Tern) → ℕ → List ℕ → Type 0
ListsKnown rows t list = (v : ℕ) × IsListed list v × IsKnownAt rows t v

-- x at position i of list m makes x of a variable where these rows are not x
abbrev pub Breaks : CircuitAndRows → List (List Tern) → ℕ → ℕ → Type 0
Breaks p cells m i =
    (t v : ℕ) × (w : Tern) × (w ≢ X) × (slice_get (row_at cells t) v ≡ Some w)
    × ((property : ℕ) → Follows p property t m i v)

-- no confirmed witness that has the values of the given one or x has x at a place where these values are not x
abbrev pub AreNeededIn : Raw → Witness → List (List Tern) → Type 0
AreNeededIn raw given needed =
    (t i : ℕ) (w : Tern) → slice_get (row_at needed t) i ≡ Some w → w ≢ X
    → (values : List (List Tern)) → AllZip (AllZip IsSameOrX) values (values_of given)
    → Confirms raw given.property values → slice_get (row_at values t) i ≡ Some X → ⊥

-- in no such witness is a variable x where these rows are not x
abbrev pub AreNeededCellsIn : Raw → Witness → List (List Tern) → Type 0
AreNeededCellsIn raw given cells =
    (t v : ℕ) (w : Tern) → slice_get (row_at cells t) v ≡ Some w → w ≢ X
    → (start : List Tern) (rows : List (List Tern)) → AllZip (AllZip IsSameOrX) (start ∷ rows) (values_of given)
    → Confirms raw given.property (start ∷ rows) → Value raw start rows t (2 * v) X → ⊥

-- what is known of the given witness: the latches of its circuit, a list of readers for each variable, and what the
-- witness needs
pub record Knows (raw : Raw) (given : Witness) (known : Known) : Type 0 where
  pub latches : known.latches.items ≡ raw.latches
  pub readers : length known.readers.lists ≡ raw.max_var + 1
  pub needed : AreNeededIn raw given (known.needed.start.items ∷ known.needed.rows.rows)
  pub cells : AreNeededCellsIn raw given known.needed.cells.rows
