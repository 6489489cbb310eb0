-- The part of a circuit that a property reads, together with the constraints: through gates in its frame, and through
-- latches in the frames before (our own choice).
-- Example: of the inputs 2 and 4, the latch `6 4` and the gate `8 6 2`, the property 6 reads 6 and 4.
use Rattle.std.specs.Prelude.{◌≡◌, ◌↔◌, ℕ, ◌+◌, Bool, true, false, if◌then◌else◌, List, [], ◌∷◌, length, map, None, Some}
use Rattle.std.specs.Prelude.{slice_get, slice_index_or}
use Rattle.aig_parts.specs.declared.gate.Gate.{Gate}
use Rattle.aig_parts.specs.declared.latch.Latch.{Latch}
use Rattle.aig_parts.specs.declared.raw.Raw.{Raw}
use Rattle.aig_parts.specs.declared.ternary.Tern.{Tern}
use Rattle.aig_parts.specs.Literal.{variable}

-- the variables that are read for the property with this literal
pub data IsRead (raw : Raw) (bad : ℕ) : ℕ → Type 0 where
  property : IsRead raw bad (variable bad)
  constraint : (c l : ℕ) → slice_get raw.constraints c ≡ Some l → IsRead raw bad (variable l)
  first : (q : ℕ) (g : Gate) → slice_get raw.gates q ≡ Some g → IsRead raw bad (variable g.lhs)
      → IsRead raw bad (variable g.rhs0)
  second : (q : ℕ) (g : Gate) → slice_get raw.gates q ≡ Some g → IsRead raw bad (variable g.lhs)
      → IsRead raw bad (variable g.rhs1)
  next : (p : ℕ) (x : Latch) → slice_get raw.latches p ≡ Some x → IsRead raw bad (variable x.lit)
      → IsRead raw bad (variable x.next)

-- the variables that pass the test are those
abbrev pub TestsRead : Raw → ℕ → (ℕ → Bool) → Type 0
TestsRead raw bad test = (v : ℕ) → (test v ≡ true) ↔ IsRead raw bad v

-- marks for the variables up to the greatest one
pub record AreReadMarks (raw : Raw) (bad : ℕ) (marks : List Bool) : Type 0 where
  pub size : length marks ≡ raw.max_var + 1
  pub exact : TestsRead raw bad (λ v. slice_index_or marks v false)

-- the items whose mark is true
unfoldable pub picked : {A : Type 0} → List Bool → List A → List A
picked [] xs = []
picked (b ∷ bs) [] = []
picked (b ∷ bs) (x ∷ xs) = if b then x ∷ picked bs xs else picked bs xs

-- a mark for each input, latch and gate
abbrev pub input_marks : (ℕ → Bool) → Raw → List Bool
input_marks test raw = map (λ l. test (variable l)) raw.inputs

abbrev pub latch_marks : (ℕ → Bool) → Raw → List Bool
latch_marks test raw = map (λ x. test (variable x.lit)) raw.latches

abbrev pub gate_marks : (ℕ → Bool) → Raw → List Bool
gate_marks test raw = map (λ g. test (variable g.lhs)) raw.gates

-- the part: what is read, the one property, the constraints; variables keep their numbers
abbrev pub part : Raw → ℕ → (ℕ → Bool) → Raw
part raw bad test = record raw {
  inputs = picked (input_marks test raw) raw.inputs;
  latches = picked (latch_marks test raw) raw.latches;
  outputs = [];
  bad = bad ∷ [];
  justice = [];
  fairness = [];
  gates = picked (gate_marks test raw) raw.gates;
  symbols = [];
  comment = None;
}

-- a run of the circuit, as far as the part goes
abbrev pub narrowed_start : (ℕ → Bool) → Raw → List Tern → List Tern
narrowed_start test raw start = picked (latch_marks test raw) start

abbrev pub narrowed_rows : (ℕ → Bool) → Raw → List (List Tern) → List (List Tern)
narrowed_rows test raw rows = map (λ row. picked (input_marks test raw) row) rows

-- the items in turn where a mark is true, and those of the second list elsewhere
unfoldable pub spread : {A : Type 0} → List Bool → List A → List A → List A
spread [] others xs = []
spread (b ∷ bs) [] xs = []
spread (b ∷ bs) (y ∷ others) [] = y ∷ spread bs others []
spread (b ∷ bs) (y ∷ others) (x ∷ xs) = if b then x ∷ spread bs others xs else y ∷ spread bs others (x ∷ xs)
