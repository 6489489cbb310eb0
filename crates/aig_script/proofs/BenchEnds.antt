-- How a run ends that reads a script, by what the run of the script alone says.
use Rattle.std.proofs.Common.{◌≡◌, ◌≢◌, ◌⊎◌, inl, inr, ℕ, ◌+◌, true, false, List, [], ◌∷◌, ◌++◌, refl, sym, ap, ◌∙◌}
use Rattle.std.proofs.Common.{subst, arith, append_assoc, Result, Ok, Err}
use Rattle.std.specs.Prelude.{IfErr, OnOk}
use Rattle.std.specs.Result.{IsErrAnd}
use Rattle.std.proofs.lemmas.Bool.{false≢true}
use Rattle.std.proofs.lemmas.List.{append-nil}
use Rattle.aig_bytes.specs.Bytes.{before, after, IsAtEnd}
use Rattle.aig_bytes.specs.Flow.{Flow}
use Rattle.aig_bytes.proofs.WriteLemmas.{after-append, after-nil}
use Rattle.aig_bench.specs.BenchState.{CircuitAndRows, BenchState}
use Rattle.aig_command.specs.Command.{Got, BreaksOff, Text, Gave, WritesPart, EndsReading}
use Rattle.aig_command.proofs.Written.{gave_part, gave_whole, through, keeps_through, reading_changed}
use Rattle.aig_command.specs.declared.run_fault.RunFault.{RunFault}
use Rattle.aig_command.specs.declared.run_fault.RunFault.TheVariants as run_faults
use Rattle.aig_command.specs.declared.script_fault.ScriptFault.{ScriptFault}
use Rattle.aig_command.specs.declared.script_fault.ScriptFault.TheVariants as scripts
use Rattle.aig_script.specs.Lines.{Line, rest_from, whole_lines, lines_of}
use Rattle.aig_script.specs.Ran.{Answered, StoppedAt, Unflushed, FailsToWrite, Ran, Failing}
use Rattle.aig_script.specs.Replies.{Replies}
use Rattle.aig_script.proofs.ReplyLemmas.{replies_append, replies_one}
use Rattle.aig_script.specs.Bench.{RunsScript, LeavesBench}
use Rattle.aig_script.specs.BenchFiles.{AreBenchFiles, RefusesFiles}
use Rattle.aig_script.proofs.ScriptParts.{Part, part_of, ended_before}
use Rattle.aig_sim.proofs.SimulationLemmas.{before_nil}

abbrev pub script_io : RunFault
script_io = run_faults.Script scripts.Io

-- why a script is not run to its end, as `Failing` says it
abbrev Why : {Y X : Type 0} → Flow Y → Flow X → List ℕ → CircuitAndRows → CircuitAndRows → Type 0
Why reader out script old new =
    ((reader.failures reader.new ≡ reader.failures reader.old + 1) × Answered out (whole_lines script) old new)
    ⊎ ((reader.failures reader.new ≡ reader.failures reader.old) × ((lines : List Line)
    × ((lines ≡ whole_lines script) ⊎ (IsAtEnd (reader.bytes reader.new) × (lines ≡ lines_of script)))
    × FailsToWrite out lines old new))

-- all was written
got_all : {X : Type 0} (out : Flow X) (lines : List Line) (old new : CircuitAndRows) (a : Answered out lines old new) → Got out a.replies
got_all out lines old new a = record { got = a.writes.ok; count = omega (arith, a.writes.count) }

-- a write of the last reply failed
breaks_off : {X : Type 0} (out : Flow X) (lines : List Line) (old new : CircuitAndRows) (s : StoppedAt out lines old new)
    → BreaksOff out (s.before_it.replies ++ s.reply)
breaks_off out lines old new s =
    let replies : List ℕ = s.before_it.replies in
    let (done, begins, got) = s.writes.err in
    record {
      done = replies ++ done;
      beginning = (begins.0, ap (λ (t : List ℕ). replies ++ t) begins.1 ∙ sym (append_assoc replies done begins.0));
      got = got ∙ ap (λ w. after w done) s.before_it.writes.ok ∙ after-append (out.bytes out.old) replies done;
      count = omega (arith, s.before_it.writes.count, s.writes.count);
    }

-- the replies up to the one that was not written whole
answered_with_last : {X : Type 0} (out : Flow X) (lines : List Line) (old new : CircuitAndRows) (s : StoppedAt out lines old new)
    → Replies old (s.first ++ s.last ∷ []) (s.before_it.replies ++ s.reply) new
answered_with_last out lines old new s =
    replies_append old s.first s.before_it.replies s.state (s.last ∷ []) s.reply new s.before_it.ran
    (replies_one s.state s.last s.reply new s.stepped)

-- all was written, and then a flush failed
unflushed : {X : Type 0} (out : Flow X) (lines : List Line) (old new : CircuitAndRows) (u : Unflushed out lines old new)
    → BreaksOff out u.answered.replies
unflushed out lines old new u =
    let replies : List ℕ = u.answered.replies in
    record {
      done = replies;
      beginning = ([], sym (append-nil replies));
      got = u.kept ∙ u.answered.writes.ok;
      count = omega (arith, u.answered.writes.count, u.count);
    }

-- ---- a script on a bench of the files

module _ {Y X : Type 0} (reader : Flow Y) (out : Flow X) (circuit stimulus : List ℕ) (old : CircuitAndRows) (left : BenchState)
    (files : AreBenchFiles circuit stimulus old) where
  -- a write of the last reply failed, or a flush after all
  breaks_all : (text : Text) (answer : Result BenchState RunFault) (bytes : List ℕ) → Gave reader text 0
      → LeavesBench circuit stimulus text answer bytes → BreaksOff out bytes → WritesPart reader out (LeavesBench circuit stimulus)
  breaks_all text answer bytes gave means broken = record {
    text = text;
    failed = 0;
    few = omega arith;
    gave = gave;
    part = text;
    beginning = ([], sym (append-nil text.bytes));
    whole = λ is. refl;
    answer = answer;
    bytes = bytes;
    means = means;
    breaks_off = broken;
  }

  -- a write of the reply to a line failed that an LF ends
  breaks_part : (script : List ℕ) (first : List Line) (bytes : List ℕ)
      → Gave reader (record { bytes = script; is_whole = false }) 0
      → Part [] script first → Replies old first bytes left.pair → BreaksOff out bytes
      → WritesPart reader out (LeavesBench circuit stimulus)
  breaks_part script first bytes gave p ran broken = record {
    text = record { bytes = script; is_whole = false };
    failed = 0;
    few = omega arith;
    gave = gave;
    part = record { bytes = p.part; is_whole = false };
    beginning = p.beginning;
    whole = λ h. absurd (false≢true h);
    answer = Err script_io;
    bytes = bytes;
    means = (old, left.pair, files, subst (λ (ls : List Line). Replies old ls bytes left.pair) (sym p.lines) ran);
    breaks_off = broken;
  }

  part_of_whole_lines : (script : List ℕ) → reader.bytes reader.old ≡ before script (reader.bytes reader.new)
      → reader.failures reader.new ≡ reader.failures reader.old
      → FailsToWrite out (whole_lines script) old left.pair → WritesPart reader out (LeavesBench circuit stimulus)
  part_of_whole_lines script read count (inl s) =
      let e = s.split ∙ sym (append_assoc s.first (s.last ∷ []) s.more) in
      breaks_part script (s.first ++ s.last ∷ []) (s.before_it.replies ++ s.reply) (gave_part reader script 0 read (omega (arith, count)))
      (part_of script (s.first ++ s.last ∷ []) s.more e) (answered_with_last out (whole_lines script) old left.pair s)
      (breaks_off out (whole_lines script) old left.pair s)
  part_of_whole_lines script read count (inr u) =
      breaks_all (record { bytes = script; is_whole = false }) (Err script_io) u.answered.replies
      (gave_part reader script 0 read (omega (arith, count))) (old, left.pair, files, u.answered.ran)
      (unflushed out (whole_lines script) old left.pair u)

  part_of_lines : (script : List ℕ) → reader.bytes reader.old ≡ before script (reader.bytes reader.new)
      → reader.failures reader.new ≡ reader.failures reader.old → IsAtEnd (reader.bytes reader.new)
      → FailsToWrite out (lines_of script) old left.pair → WritesPart reader out (LeavesBench circuit stimulus)
  part_of_lines script read count end (inl s) = by_more s.more s.split
    where
      bytes : List ℕ
      bytes = s.before_it.replies ++ s.reply

      by_more : (more : List Line) → lines_of script ≡ s.first ++ (s.last ∷ more) → WritesPart reader out (LeavesBench circuit stimulus)
      by_more [] e =
          breaks_all (record { bytes = script; is_whole = true }) (Ok left) bytes (gave_whole reader script read end count) (
            old,
            files,
            refl,
            subst (λ (ls : List Line). Replies old ls bytes left.pair) (sym e) (answered_with_last out (lines_of script) old left.pair s),
          )
          (breaks_off out (lines_of script) old left.pair s)
      by_more (next ∷ more) e =
          let (rest, is) = ended_before (whole_lines script) (rest_from [] script) s.first s.last next more e in
          breaks_part script (s.first ++ s.last ∷ []) bytes (gave_part reader script 0 read (omega (arith, count)))
          (part_of script (s.first ++ s.last ∷ []) rest (is ∙ sym (append_assoc s.first (s.last ∷ []) rest)))
          (answered_with_last out (lines_of script) old left.pair s) (breaks_off out (lines_of script) old left.pair s)
  part_of_lines script read count end (inr u) =
      breaks_all (record { bytes = script; is_whole = true }) (Ok left) u.answered.replies (gave_whole reader script read end count)
      (old, files, refl, u.answered.ran) (unflushed out (lines_of script) old left.pair u)

  part_of_fails : (script : List ℕ) (lines : List Line) → reader.bytes reader.old ≡ before script (reader.bytes reader.new)
      → reader.failures reader.new ≡ reader.failures reader.old
      → ((lines ≡ whole_lines script) ⊎ (IsAtEnd (reader.bytes reader.new) × (lines ≡ lines_of script)))
      → FailsToWrite out lines old left.pair → WritesPart reader out (LeavesBench circuit stimulus)
  part_of_fails script lines read count (inl is) fails =
      part_of_whole_lines script read count (subst (λ (ls : List Line). FailsToWrite out ls old left.pair) is fails)
  part_of_fails script lines read count (inr is) fails =
      part_of_lines script read count is.0 (subst (λ (ls : List Line). FailsToWrite out ls old left.pair) is.1 fails)

  why_ends : (script : List ℕ) → reader.bytes reader.old ≡ before script (reader.bytes reader.new)
      → Why reader out script old left.pair
      → EndsReading reader out script_io (LeavesBench circuit stimulus) (Err script_io)
  why_ends script read (inl (count, a)) = EndsReading.stops_reading (record {
    text = record { bytes = script; is_whole = false };
    bytes = a.replies;
    gave = gave_part reader script 1 read count;
    means = (old, left.pair, files, a.ran);
    whole = tt;
    got = got_all out (whole_lines script) old left.pair a;
  })
  why_ends script read (inr (count, (lines, is, fails))) =
      EndsReading.breaks_off (part_of_fails script lines read count is fails)

  -- the script was read to its end, and all of its lines were answered
  pub ran_ends : Ran reader out old left.pair → EndsReading reader out script_io (LeavesBench circuit stimulus) (Ok left)
  ran_ends r = EndsReading.writes_all {answer = Ok left} (λ is. let no : ⊥ = cc in no) (record {
    text = record { bytes = r.script; is_whole = true };
    bytes = r.answered.replies;
    gave = gave_whole reader r.script r.read r.at_end r.no_failure;
    means = (old, files, refl, r.answered.ran);
    whole = refl;
    got = got_all out (lines_of r.script) old left.pair r.answered;
  })

  -- a read, a write or a flush failed
  failing_ends : Failing reader out old left.pair → EndsReading reader out script_io (LeavesBench circuit stimulus) (Err script_io)
  failing_ends f = why_ends f.script f.read f.why

-- ---- nothing was read or written

none_ends : {Y X : Type 0} (reader : Flow Y) (out : Flow X) (circuit stimulus : List ℕ) (fault : RunFault)
    → fault ≢ script_io → reader.new ≡ reader.old → out.new ≡ out.old
    → RunsScript circuit stimulus (record { bytes = []; is_whole = false }) (Err fault) []
    → EndsReading reader out script_io (LeavesBench circuit stimulus) (Err fault)
none_ends reader out circuit stimulus fault other unread unwritten means =
    EndsReading.writes_all {answer = Err fault} (λ is. other (let same : fault ≡ script_io = cc in same)) (record {
      text = record { bytes = []; is_whole = false };
      bytes = [];
      gave = gave_part reader [] 0 (sym (before_nil (reader.bytes reader.new) ∙ ap reader.bytes unread)) (omega (arith, ap reader.failures unread));
      means = means;
      whole = tt;
      got = record {
        got = ap out.bytes unwritten ∙ sym (after-nil (out.bytes out.old));
        count = ap out.failures unwritten;
      };
    })

-- the files are refused
pub refused_ends : {Y X : Type 0} (reader : Flow Y) (out : Flow X) (circuit stimulus : List ℕ) (fault : RunFault)
    → RefusesFiles circuit stimulus fault → reader.new ≡ reader.old → out.new ≡ out.old
    → EndsReading reader out script_io (LeavesBench circuit stimulus) (Err fault)
refused_ends reader out circuit stimulus (run_faults.Circuit f) h unread unwritten =
    none_ends reader out circuit stimulus (run_faults.Circuit f) (λ e. let no : ⊥ = cc in no) unread unwritten (h, refl, refl)
refused_ends reader out circuit stimulus (run_faults.Stimulus f) h unread unwritten =
    none_ends reader out circuit stimulus (run_faults.Stimulus f) (λ e. let no : ⊥ = cc in no) unread unwritten (h, refl, refl)
refused_ends reader out circuit stimulus (run_faults.Bench f) h unread unwritten =
    none_ends reader out circuit stimulus (run_faults.Bench f) (λ e. let no : ⊥ = cc in no) unread unwritten (h, refl, refl)
refused_ends reader out circuit stimulus fault h unread unwritten = absurd h

-- the script is not run to its end
pub fault_ends : {Y X : Type 0} (reader : Flow Y) (out : Flow X) (circuit stimulus : List ℕ) (old : CircuitAndRows) (left : BenchState)
    → AreBenchFiles circuit stimulus old → (fault : ScriptFault)
    → (fault ≡ scripts.Io → Failing reader out old left.pair)
    → (fault ≡ scripts.Memory → (reader.new ≡ reader.old) × (out.new ≡ out.old))
    → EndsReading reader out script_io (LeavesBench circuit stimulus) (Err (run_faults.Script fault))
fault_ends reader out circuit stimulus old left files scripts.Io failing memory =
    failing_ends reader out circuit stimulus old left files (failing refl)
fault_ends reader out circuit stimulus old left files scripts.Memory failing memory =
    none_ends reader out circuit stimulus (run_faults.Script scripts.Memory) (λ e. let no : ⊥ = cc in no)
    (memory refl).0 (memory refl).1 ((old, files), refl, refl)

-- ---- the same run without its bench

abbrev pub without : {A : Type 0} → Result A RunFault → Result (Unit {0}) RunFault
without = through (λ left. tt)

means_same : (circuit stimulus : List ℕ) (script : Text) (r : Result BenchState RunFault) (bytes : List ℕ)
    → LeavesBench circuit stimulus script r bytes → RunsScript circuit stimulus script (without r) bytes
means_same circuit stimulus script (Ok left) bytes (pair, files, whole, ran) = (pair, left.pair, files, whole, ran)
means_same circuit stimulus script (Err fault) bytes h = h

pub ends_without : {Y X : Type 0} (reader : Flow Y) (out : Flow X) (circuit stimulus : List ℕ) (fault : RunFault)
    (r : Result BenchState RunFault) → EndsReading reader out fault (LeavesBench circuit stimulus) r
    → EndsReading reader out fault (RunsScript circuit stimulus) (without r)
ends_without reader out circuit stimulus =
    reading_changed reader out (LeavesBench circuit stimulus) (RunsScript circuit stimulus) without (keeps_through (λ left. tt))
    (means_same circuit stimulus)

-- ---- what a fault says

-- a script that found no memory changed nothing
pub unchanged : {A : Type 0} (r : Result A RunFault) (fault : ScriptFault) (P : Type 0) → IsErrAnd r (λ f. f ≡ run_faults.Script fault)
    → (fault ≡ scripts.Memory → P) → IfErr r (λ f. f ≢ script_io → P)
unchanged (Ok x) fault P is memory = tt
unchanged (Err f) scripts.Io P is memory = λ other. absurd (other is)
unchanged (Err f) scripts.Memory P is memory = λ other. memory refl
