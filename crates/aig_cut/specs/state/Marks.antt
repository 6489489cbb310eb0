-- The marks of the parts that are cut.
use Rattle.std.specs.Prelude.{◌≡◌, ℕ, ◌+◌, ◌*◌, ◌/◌, ◌<◌, ◌≤◌, List, length, Some, slice_get, false, slice_index_or}
use Rattle.aig_parts.specs.declared.raw.Raw.{Raw}
use Rattle.aig_parts.specs.Literal.{variable}
use Rattle.aig_cut.specs.declared.fault.CutFault.{CutFault}
use Rattle.aig_cut.specs.declared.fault.CutFault.TheVariants as faults
use Rattle.aig_cut.specs.declared.line.Cut.{Cut}
use Rattle.aig_cut.specs.declared.line.Cut.TheVariants as cut
use Rattle.aig_cut.specs.declared.marks.Marks.{Marks}
use Rattle.aig_cut.specs.Cuts.{Cuts, named_by}
use Rattle.aig_cut.specs.Lines.{IsFirstWrong}

-- the number in the line of a cut
abbrev pub number_in : Cut → ℕ
number_in (cut.Free l) = l
number_in (cut.Start l) = l
number_in (cut.Constraint p) = p

-- what is marked
abbrev pub marked : Marks → Cuts
marked marks = record {
  free = λ l. slice_index_or marks.free.items (variable l) false;
  starts = λ l. slice_index_or marks.starts.items (variable l) false;
  constraints = λ p. slice_index_or marks.constraints.items p false;
}

-- there are marks for the latch or gate of the literal
abbrev pub HasMarks : Marks → ℕ → Type 0
HasMarks marks l = (variable l < length marks.free.items) × (variable l < length marks.starts.items)

-- there is a mark for each variable and each constraint
pub record FitMarks (raw : Raw) (marks : Marks) : Type 0 where
  pub free : length marks.free.items ≡ raw.max_var + 1
  pub starts : length marks.starts.items ≡ raw.max_var + 1
  pub constraints : length marks.constraints.items ≡ length raw.constraints

-- and those of the cuts are set
pub record AreMarks (raw : Raw) (cuts : List Cut) (marks : Marks) : Type 0 where
  pub fit : FitMarks raw marks
  pub free : (v : ℕ) → v ≤ raw.max_var → (marked marks).free (2 * v) ≡ (named_by cuts).free (2 * v)
  pub starts : (v : ℕ) → v ≤ raw.max_var → (marked marks).starts (2 * v) ≡ (named_by cuts).starts (2 * v)
  pub constraints : (p : ℕ) → p < length raw.constraints
      → (marked marks).constraints p ≡ (named_by cuts).constraints p

-- why there are no marks
abbrev pub RefusesLines : Raw → List ℕ → CutFault → Type 0
RefusesLines raw text (faults.Line n) = IsFirstWrong raw text n
RefusesLines raw text faults.Limit = ⊥
RefusesLines raw text faults.Memory = Unit {0}
