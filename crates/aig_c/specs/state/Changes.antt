-- What the program does for one edit: the edit that a change means, and a sum with one more report.
-- Example: `Append` of 2 and 4 means `append_gate 2 4`.
use Rattle.std.specs.Prelude.{◌≡◌, ℕ, ◌+◌, List, Ok}
use Rattle.aig_bench.specs.BenchState.{BenchState}
use Rattle.aig_bench.specs.declared.edit.EditReport.{EditReport}
use Rattle.aig_bench.specs.Edit.{Edit, rewire, set_reset, set_bit, append_gate, set_output, drop_frame}
use Rattle.aig_c.specs.declared.live.change.AigReport.{AigReport}
use Rattle.aig_c.specs.declared.live.change.Change.{Change}
use Rattle.aig_c.specs.declared.live.change.Change.TheVariants as changes
use Rattle.aig_c.specs.declared.live.many.AigEdit.{AigEdit}
use Rattle.aig_c.specs.Live.{Does, Done, capped, edit_in}

abbrev pub edit_of : Change → Edit
edit_of (changes.Set t i w) = set_bit t i w
edit_of (changes.Rewire g a b) = rewire g a b
edit_of (changes.Reset l w) = set_reset l w
edit_of (changes.Append a b) = append_gate a b
edit_of (changes.Output i l) = set_output i l
edit_of changes.DropFrame = drop_frame

-- a sum with the counts of one more report
pub record HasAdded (old : AigReport) (report : EditReport) (new : AigReport) : Type 0 where
  pub evaluated : new.evaluated ≡ capped (old.evaluated + report.evaluated)
  pub changed : new.changed ≡ capped (old.changed + report.changed)

-- the edit of an entry is done, and its report added
pub record Steps (old : BenchState) (entry : AigEdit) (sum more : AigReport) (new : BenchState) : Type 0 where
  pub e : Edit
  pub report : EditReport
  pub reads : edit_in entry ≡ Ok e
  pub does : Does old e (Ok report) new
  pub adds : HasAdded sum report more

-- the first edits of an array are done, and their reports are added up
pub record DoneSoFar (old : BenchState) (entries : List AigEdit) (done : ℕ) (sum : AigReport) (new : BenchState) : Type 0
  where
    pub all_evaluated : ℕ
    pub all_changed : ℕ
    pub are_done : Done entries old done all_evaluated all_changed new
    pub evaluated_is : sum.evaluated ≡ capped all_evaluated
    pub changed_is : sum.changed ≡ capped all_changed
