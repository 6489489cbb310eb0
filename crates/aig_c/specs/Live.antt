-- What a call on a bench that C holds answers. There may be no bench.
-- Example: 6 at frame 3 of a bench with one frame, and 255 after `aig_live_close`; the edits `set 0 0 1` and `set 9 0 1`
-- of that bench: one is done, and then 6.
use Rattle.std.specs.Prelude.{◌≡◌, ◌≢◌, ◌<◌, ◌≤◌, ◌↔◌, ◌⊎◌, ℕ, ◌+◌, List, length, min, slice_get}
use Rattle.std.specs.Prelude.{Option, Some, None, Bool, true, false, Result, Ok, Err}
use Prim.Native.Nat.{zero, suc}
use Rattle.std.specs.Global.{Global}
use Rattle.std_alloc.specs.declared.boxed.Box.{Box}
use Rattle.aig_parts.specs.declared.ternary.Tern.{Tern}
use Rattle.aig_parts.specs.declared.ternary.Tern.TheVariants as tern
use Rattle.aig_bench.specs.declared.edit.EditFault.{EditFault}
use Rattle.aig_bench.specs.declared.edit.EditReport.{EditReport}
use Rattle.aig_bench.specs.BenchState.{BenchState, CircuitAndRows}
use Rattle.aig_bench.specs.Edit.{Edit, set_bit, rewire, set_reset, append_gate, set_output, drop_frame, edit_fault_number}
use Rattle.aig_bench.specs.Question.{AnswersValue}
use Rattle.aig_bench.specs.Touched.{Works}
use Rattle.aig_command.specs.declared.run_fault.RunFault.{RunFault}
use Rattle.aig_command.specs.Status.{status_of}
use Rattle.aig_script.specs.BenchFiles.{AreBenchFiles, RefusesFiles}
use Rattle.aig_script.specs.Replies.{AnswersEdit}
use Rattle.aig_c.specs.declared.live.change.AigReport.{AigReport}
use Rattle.aig_c.specs.declared.live.many.AigEdit.{AigEdit}
use Rattle.aig_c.specs.declared.live.questions.AigCell.{AigCell}
use Rattle.aig_c.specs.declared.live.questions.AigSizes.{AigSizes}

abbrev pub is_open : Option BenchState → Bool
is_open (Some _) = true
is_open None = false

-- ---- opening and closing

-- there is a bench of the two files
abbrev pub Opens : List ℕ → List ℕ → Option BenchState → Type 0
Opens circuit rows held = (state : BenchState) × (held ≡ Some state) × AreBenchFiles circuit rows state.pair

-- one of the two files is rejected, and not because memory ran out
abbrev pub Rejected : List ℕ → List ℕ → Type 0
Rejected circuit rows = (fault : RunFault) × (status_of fault ≡ 1) × RefusesFiles circuit rows fault

-- what `close` says: whether there was a bench
abbrev pub close_status : Bool → ℕ
close_status true = 0
close_status false = 255

-- the box has the bench that was held
abbrev pub Has : Option BenchState → Option (Box BenchState Global) → Type 0
Has (Some state) (Some box) = box.value ≡ state
Has None None = Unit {0}
Has _ _ = ⊥

-- ---- values as numbers

-- the value that a number stands for, if it stands for one
abbrev pub value_of : ℕ → Option Tern
value_of zero = Some tern.Zero
value_of (suc zero) = Some tern.One
value_of (suc (suc zero)) = Some tern.X
value_of _ = None

abbrev pub number_of : Tern → ℕ
number_of tern.Zero = 0
number_of tern.One = 1
number_of tern.X = 2

-- ---- edits

-- The bench answers an edit: the pair after it, which cells it evaluated, and that it lacks memory only where it may.
abbrev pub Does : BenchState → Edit → Result EditReport EditFault → BenchState → Type 0
Does old e answer new = AnswersEdit old.pair e answer new.pair × Works old e answer new

-- the status and the counts that tell an answer
abbrev pub Tells : ℕ → ℕ → ℕ → Result EditReport EditFault → Type 0
Tells status evaluated changed (Ok report) = (status ≡ 0) × (evaluated ≡ report.evaluated) × (changed ≡ report.changed)
Tells status evaluated changed (Err fault) = status ≡ edit_fault_number fault

-- an edit of a bench that C holds: what the bench answers is told, and where there is no bench the status is 255
abbrev pub LiveEdits : Option BenchState → Edit → ℕ → ℕ → ℕ → Option BenchState → Type 0
LiveEdits None e status evaluated changed new = (status ≡ 255) × (new ≡ None)
LiveEdits (Some old) e status evaluated changed new =
    (state : BenchState) × (new ≡ Some state)
    × ((answer : Result EditReport EditFault) × Tells status evaluated changed answer × Does old e answer state)

-- an edit that gives an input or a latch a value, if there is such a value
abbrev pub valued : Option Tern → (Tern → Edit) → Result Edit ℕ
valued (Some value) e = Ok (e value)
valued None e = Err 253

-- what a call for an edit returns, or for arguments that ask for none; what is refused leaves bench and report as
-- they were
pub record LiveEdit (old : Option BenchState) (asked : Result Edit ℕ) (status : ℕ) (report report_after : AigReport)
    (new : Option BenchState) : Type 0 where
  pub edits : (e : Edit) → asked ≡ Ok e → LiveEdits old e status report_after.evaluated report_after.changed new
  pub value : (number : ℕ) → asked ≡ Err number → is_open old ≡ true → status ≡ number
  pub closed : (status ≡ 255) ↔ (is_open old ≡ false)
  pub kept : status ≢ 0 → new ≡ old
  pub report_kept : status ≢ 0 → report_after ≡ report

-- ---- many edits

-- the edit of a kind, or 252 where there is no such kind
abbrev pub edit_of_kind : ℕ → ℕ → ℕ → ℕ → Result Edit ℕ
edit_of_kind zero a b c = valued (value_of c) (set_bit a b)
edit_of_kind (suc zero) a b c = Ok (rewire a b c)
edit_of_kind (suc (suc zero)) a b c = valued (value_of b) (set_reset a)
edit_of_kind (suc (suc (suc zero))) a b c = Ok (append_gate a b)
edit_of_kind (suc (suc (suc (suc zero)))) a b c = Ok (set_output a b)
edit_of_kind (suc (suc (suc (suc (suc zero))))) a b c = Ok drop_frame
edit_of_kind _ a b c = Err 252

-- the edit that an entry of an array asks for, or the status that refuses it
abbrev pub edit_in : AigEdit → Result Edit ℕ
edit_in entry = edit_of_kind entry.kind entry.a entry.b entry.c

-- a sum that is told in 64 bits
abbrev pub capped : ℕ → ℕ
capped n = min n 18446744073709551615

-- The first edits of an array are done one after the other, from one bench to another. They evaluate so many cells, and
-- change so many of them.
pub data Done (entries : List AigEdit) (old : BenchState) : ℕ → ℕ → ℕ → BenchState → Type 0 where
  none : Done entries old 0 0 0 old
  next : {done evaluated changed : ℕ} {mid : BenchState} → Done entries old done evaluated changed mid
      → (entry : AigEdit) → slice_get entries done ≡ Some entry
      → (e : Edit) → edit_in entry ≡ Ok e
      → (report : EditReport) (new : BenchState) → Does mid e (Ok report) new
      → Done entries old (done + 1) (evaluated + report.evaluated) (changed + report.changed) new

-- the bench refuses an edit with this status, and stays; or there is no such edit
abbrev pub Refuses : BenchState → Result Edit ℕ → ℕ → Type 0
Refuses state (Ok e) status = (fault : EditFault) × (status ≡ edit_fault_number fault) × Does state e (Err fault) state
Refuses state (Err number) status = status ≡ number

-- edits are done up to the first that is refused
pub record RunsEdits (old : BenchState) (entries : List AigEdit) (status done evaluated changed : ℕ) (new : BenchState)
    : Type 0 where
  pub all_evaluated : ℕ
  pub all_changed : ℕ
  pub are_done : Done entries old done all_evaluated all_changed new
  pub evaluated_is : evaluated ≡ capped all_evaluated
  pub changed_is : changed ≡ capped all_changed
  pub whole : status ≡ 0 → done ≡ length entries
  pub refused : status ≢ 0 → (entry : AigEdit) × (slice_get entries done ≡ Some entry) × Refuses new (edit_in entry) status

-- many edits of a bench that C holds
abbrev pub LiveRuns : Option BenchState → List AigEdit → ℕ → ℕ → ℕ → ℕ → Option BenchState → Type 0
LiveRuns None entries status done evaluated changed new = (status ≡ 255) × (new ≡ None)
LiveRuns (Some old) entries status done evaluated changed new =
    (state : BenchState) × (new ≡ Some state) × RunsEdits old entries status done evaluated changed state

-- ---- questions

-- what each question to a bench that C holds says: it leaves the bench as it was, and the status is 255 without one
pub record Asks (status : ℕ) (old new : Option BenchState) : Type 0 where
  pub closed : (status ≡ 255) ↔ (is_open old ≡ false)
  pub kept : new ≡ old

abbrev pub TellsValue : ℕ → ℕ → Result Tern EditFault → Type 0
TellsValue status value (Ok w) = (status ≡ 0) × (value ≡ number_of w)
TellsValue status value (Err fault) = status ≡ edit_fault_number fault

-- a question to a bench that C holds
abbrev pub LiveValue : Option BenchState → ℕ → ℕ → ℕ → ℕ → Type 0
LiveValue None t l status value = status ≡ 255
LiveValue (Some state) t l status value =
    (answer : Result Tern EditFault) × TellsValue status value answer × AnswersValue state.pair t l answer

-- the number tells the answer: a value, or 16 and the fault
abbrev pub Codes : ℕ → Result Tern EditFault → Type 0
Codes code (Ok w) = code ≡ number_of w
Codes code (Err fault) = code ≡ 16 + edit_fault_number fault

abbrev pub CellValue : CircuitAndRows → ℕ → ℕ → ℕ → Type 0
CellValue pair t l code = (answer : Result Tern EditFault) × Codes code answer × AnswersValue pair t l answer

-- each value tells the answer for the cell of its place
abbrev pub HasValues : List AigCell → List ℕ → BenchState → Type 0
HasValues cells values state =
    (i : ℕ) (cell : AigCell) (value : ℕ) → slice_get cells i ≡ Some cell → slice_get values i ≡ Some value
    → CellValue state.pair cell.frame cell.literal value

-- each value tells the answer for the literal of its place at the frame
abbrev pub HasRow : ℕ → List ℕ → List ℕ → BenchState → Type 0
HasRow t literals values state =
    (i l value : ℕ) → slice_get literals i ≡ Some l → slice_get values i ≡ Some value
    → CellValue state.pair t l value

-- from a place on all values are as they were
abbrev pub IsKeptFrom : ℕ → List ℕ → List ℕ → Type 0
IsKeptFrom n old new = (i : ℕ) → n ≤ i → slice_get new i ≡ slice_get old i

-- what a question for so many values says of the places for them: where these are too few, the status is 254
pub record AsksMany (status count : ℕ) (old new : Option BenchState) (values values_after : List ℕ) : Type 0 where
  pub asks : Asks status old new
  pub short : is_open old ≡ true → (status ≡ 254) ↔ (length values < count)
  pub room_kept : status ≢ 0 → values_after ≡ values
  pub behind : IsKeptFrom count values values_after
  pub statuses : (status ≡ 0) ⊎ (254 ≤ status)

-- the sizes of a bench
pub record HasSizes (sizes : AigSizes) (state : BenchState) : Type 0 where
  pub frames : sizes.frames ≡ length state.pair.rows
  pub inputs : sizes.inputs ≡ length state.pair.circuit.inputs
  pub latches : sizes.latches ≡ length state.pair.circuit.latches
  pub outputs : sizes.outputs ≡ length state.pair.circuit.outputs
  pub gates : sizes.gates ≡ length state.pair.circuit.gates
  pub max_var : sizes.max_var ≡ state.pair.circuit.max_var
