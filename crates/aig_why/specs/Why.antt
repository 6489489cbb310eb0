-- What `aig why` writes (our own choice).
-- Example: with depth 3 at frame 10 the least frame is 7.
use Rattle.std.specs.Prelude.{◌≡◌, ◌≢◌, ℕ, ◌+◌, ◌-◌, ◌*◌, ◌<◌, ◌≤◌, List, [], ◌∷◌, ◌++◌, length, All, Option, None}
use Rattle.std.specs.Prelude.{Some, Result, Ok, Err, slice_get, ◌⊎◌, ⊤}
use Rattle.aig_base.specs.Sections.{IsLatchLiteral}
use Rattle.aig_base.specs.Value.{start_of}
use Rattle.aig_parts.specs.Limits.{cell_limit}
use Rattle.aig_parts.specs.declared.raw.Raw.{Raw}
use Rattle.aig_parts.specs.declared.symbols.Kind.TheVariants.{Bad}
use Rattle.aig_parts.specs.declared.ternary.Tern.{Tern}
use Rattle.aig_bench.specs.declared.bench.fault.BenchFault.TheVariants as benches
use Rattle.aig_bench.specs.BenchState.{CircuitAndRows}
use Rattle.aig_causes.specs.Causes.{Moment, Sources}
use Rattle.aig_causes.specs.Explanation.{ComesDown, LineState, named_at}
use Rattle.aig_command.specs.Given.{IsGiven, ReadRun, RefusesGiven}
use Rattle.aig_command.specs.declared.given.Given.{Given}
use Rattle.aig_command.specs.declared.run_fault.RunFault.{RunFault}
use Rattle.aig_command.specs.declared.run_fault.RunFault.TheVariants as run_faults
use Rattle.aig_command.specs.declared.why_fault.WhyFault.TheVariants as why_faults
use Rattle.aig_signals.specs.declared.form.Form.{Form}
use Rattle.aig_signals.specs.Lookup.{Means, Unknown}
use Rattle.aig_signals.specs.Names.{first_name}
use Rattle.aig_why.specs.Lines.{AreFrameTexts, AreLastTexts, IsAskedText}
use Rattle.aig_why.specs.declared.command.Span.{Span}

-- a run from a start over some rows
pub record Run : Type 0 where
  pub start : List Tern
  pub rows : List (List Tern)

-- the run of a bench
abbrev pub run_of : CircuitAndRows → Run
run_of p = record { start = start_of p.circuit; rows = p.rows }

-- a run that was read
abbrev pub run_read : ReadRun → Run
run_read r = record { start = r.start; rows = r.rows }

-- the run at one of its frames
abbrev pub at : Run → ℕ → Moment
at run t = record { start = run.start; rows = run.rows; frame = t }

-- the frame that is explained, of so many: the last, where none is asked for
abbrev pub IsFrame : Option ℕ → ℕ → ℕ → Type 0
IsFrame None count t = t + 1 ≡ count
IsFrame (Some asked) count t = (t ≡ asked) × (t < count)

-- the frame below which no line goes
abbrev pub least_frame : Option ℕ → ℕ → ℕ
least_frame None t = 0
least_frame (Some depth) t = t - depth

-- A text of lines. The literals that were asked for are explained down to frame f by lines that are right, each by
-- itself and all together; that is the least frame, or no latch is named there.
pub record IsExplanation (form : Form) (raw : Raw) (run : Run) (name literals : List ℕ) (t least : ℕ)
    (text : List ℕ) : Type 0 where
  pub asked : Sources
  pub frames : List (List LineState)
  pub f : ℕ
  pub down : f + length frames ≡ t
  pub explains : ComesDown raw literals asked (at run f) frames
  pub ends : (least ≤ f) × (f ≢ least → (named_at asked frames).latches ≡ [])
  pub first : List ℕ
  pub lines : List ℕ
  pub last : List ℕ
  pub first_alone : All (IsLatchLiteral raw) literals → first ≡ []
  pub first_is : (All (IsLatchLiteral raw) literals → ⊥) → IsAskedText form raw (at run t) name literals asked first
  pub lines_are : AreFrameTexts form raw (at run f) frames lines
  pub last_are : AreLastTexts form raw (at run f) (named_at asked frames).latches last
  pub text_is : text ≡ first ++ (lines ++ last)

-- What is asked for: what a name means, or, where none is given, the bad state property of the run by its first name.
abbrev pub IsQuestion : Raw → Option (List ℕ) → Option ℕ → List ℕ → List ℕ → Type 0
IsQuestion raw (Some given) property name literals = (name ≡ given) × Means raw given literals
IsQuestion raw None (Some property) name literals =
    (l : ℕ) × (slice_get raw.bad property ≡ Some l) × (literals ≡ l ∷ []) × (name ≡ first_name raw Bad property)
IsQuestion raw None None name literals = ⊥

-- nothing is: nothing has the name, or there is neither a name nor a property
abbrev pub IsNoQuestion : Raw → Option (List ℕ) → Option ℕ → Type 0
IsNoQuestion raw (Some given) property = Unknown raw given
IsNoQuestion raw None (Some property) = ⊥
IsNoQuestion raw None None = ⊤

-- a bench has room for the cells of the run
abbrev pub IsWithinCells : Raw → Run → Type 0
IsWithinCells raw run = (raw.max_var + 1) * length run.rows ≤ cell_limit

-- the first fault after those of the files: too many cells; no such name; no such frame
abbrev pub RefusesRun : Raw → Run → Option ℕ → Option (List ℕ) → Span → RunFault → Type 0
RefusesRun raw run property name span (run_faults.Bench benches.Limit) =
    cell_limit < (raw.max_var + 1) * length run.rows
RefusesRun raw run property name span (run_faults.Bench benches.Memory) = Unit {0}
RefusesRun raw run property name span (run_faults.Why why_faults.Name) =
    IsWithinCells raw run × IsNoQuestion raw name property
RefusesRun raw run property name span (run_faults.Why why_faults.Frame) =
    IsWithinCells raw run × ((shown : List ℕ) × (literals : List ℕ) × IsQuestion raw name property shown literals)
    × ((t : ℕ) → IsFrame span.frame (length run.rows) t → ⊥)
RefusesRun raw run property name span run_faults.Memory = Unit {0}
RefusesRun raw run property name span _ = ⊥

-- the text explains what is asked for, at the frame that is asked for
pub record ExplainsRun (form : Form) (raw : Raw) (run : Run) (property : Option ℕ) (name : Option (List ℕ))
    (span : Span) (text : List ℕ) : Type 0 where
  pub cells : IsWithinCells raw run
  pub shown : List ℕ
  pub literals : List ℕ
  pub question : IsQuestion raw name property shown literals
  pub t : ℕ
  pub frame : IsFrame span.frame (length run.rows) t
  pub explanation : IsExplanation form raw run shown literals t (least_frame span.depth t) text

-- What `aig why` returns and writes for the run that is given with a circuit: the lines; or nothing, where that run is
-- refused, or what is asked of it.
abbrev pub WritesWhy : Form → Given (List ℕ) → Option (List ℕ) → Span → Raw → Result (Unit {0}) RunFault → List ℕ
    → Type 0
WritesWhy form given name span raw (Ok done) written =
    (run : ReadRun) × IsGiven raw given run × ExplainsRun form raw (run_read run) run.property name span written
WritesWhy form given name span raw (Err fault) written =
    (RefusesGiven raw given fault
    ⊎ ((run : ReadRun) × IsGiven raw given run × RefusesRun raw (run_read run) run.property name span fault))
    × (written ≡ [])
