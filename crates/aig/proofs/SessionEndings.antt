-- How a session ends, from how `run_shell` does.
use Rattle.std.proofs.Common.{◌≡◌, ◌⊎◌, inl, inr, ℕ, ◌≤◌, ◌<◌, List, [], Result, Ok, Err, refl, sym, ◌∙◌, ap, subst, arith}
use Rattle.std.specs.Prelude.{Bool, Option}
use Rattle.aig_bytes.specs.Flow.{Flow, flow}
use Rattle.aig_bytes.proofs.WriteLemmas.{after-nil}
use Rattle.aig_parts.specs.declared.raw.Raw.{Raw}
use Rattle.aig_bench.specs.BenchState.{CircuitAndRows}
use Rattle.aig_files.specs.declared.exit.Exit.{Exit}
use Rattle.aig_command.specs.Command.{BreaksOff, CommandEnds, IsFileOf}
use Rattle.aig_command.specs.Flushed.{IsFlushed, flushes, fails}
use Rattle.aig_command.specs.Given.{IsGiven, ReadRun}
use Rattle.aig_command.specs.declared.given.Given.{Given}
use Rattle.aig_command.specs.declared.run_fault.RunFault.{RunFault}
use Rattle.aig_command.specs.declared.run_fault.RunFault.TheVariants as run_faults
use Rattle.aig_shell.specs.Conversation.{BreaksDown, EndsShell, Passes}
use Rattle.aig_shell.specs.Files.{Call}
use Rattle.aig_shell.specs.Session.{BeginsAt, first_state}
use Rattle.aig_program.specs.Ends.{Ends, EndsFlushed, end_of, seen, unwritten}
use Rattle.aig.specs.Sessions.{HoldsSession, IsSomeTalk}
use Rattle.aig_program.proofs.Endings.{command_ends, still_broken}

module _ {Y X Z : Type 0} (passes : Passes Y X Z) (person : Bool) (file : List ℕ) (given : Given (List ℕ)) where
  -- where a read failed, the writer got a beginning of what is said; where a write failed, too
  session_down : (raw : Raw) → IsFileOf file raw → (run : ReadRun) (pair : CircuitAndRows) → IsGiven raw given run
      → BeginsAt raw run.start run.rows pair → (down : BreaksDown passes person (first_state raw run.property pair))
      → ((passes.reader.failures passes.reader.old < passes.reader.failures passes.reader.new)
      × (passes.out.failures passes.out.new ≡ passes.out.failures passes.out.old))
      ⊎ (passes.out.failures passes.out.old < passes.out.failures passes.out.new)
      → CommandEnds passes.out run_faults.Shell (HoldsSession file given) (Err run_faults.Shell)
  session_down raw is run pair begins at down (inl (read, count)) =
      CommandEnds.writes_all down.done
      (inr (refl, (raw, is, (down.text, (run, pair, begins, at, person, down.input, down.calls, down.quits, down.talk), down.beginning))))
      (record { got = down.got; count = count })
  session_down raw is run pair begins at down (inr count) =
      CommandEnds.breaks_off (Ok tt) down.text
      (raw, is, (run, pair, begins, at, person, down.input, down.calls, down.quits, down.talk))
      (record { done = down.done; beginning = down.beginning; got = down.got; count = count })

  -- it ends as a command does; or a write or a flush fails at once
  session_command : (answer : Result (Unit {0}) RunFault) → EndsShell passes person file given answer
      → CommandEnds passes.out run_faults.Shell (HoldsSession file given) answer
      ⊎ ((answer ≡ Err run_faults.Shell) × BreaksOff passes.out [])
  session_command (Ok done) (raw, is, (run, pair, begins, at, ended)) =
      inl (CommandEnds.writes_all ended.text
      (raw, is, (run, pair, begins, at, person, ended.input, ended.calls, ended.quits, ended.talk)) ended.got)
  session_command (Err fault) (inl (refused, (unread, none, kept))) =
      inl (CommandEnds.writes_all [] (inl (refused, refl)) none)
  session_command (Err fault) (inr (is, inl (raw, is_file, (run, pair, begins, at, down)))) =
      inl (subst (λ (why : RunFault). CommandEnds passes.out run_faults.Shell (HoldsSession file given) (Err why)) (sym is)
      (session_down raw is_file run pair begins at down down.failed))
  session_command (Err fault) (inr (is, inr only)) =
      inr (
        ap Err is,
        record {
          done = [];
          beginning = ([], refl);
          got = only.got ∙ sym (after-nil (passes.out.bytes passes.out.old));
          count = only.failed;
        },
      )

-- a flush after it
module _ {X : Type 0} (out : Flow X) (answer : Result (Unit {0}) RunFault) where
  told_broken : (told : Result (Unit {0}) RunFault) → answer ≡ Err run_faults.Shell
      → IsFlushed out run_faults.Shell answer told → told ≡ Err run_faults.Shell
  told_broken told is (flushes kept count) = is
  told_broken told is (fails kept count) = refl

  kept_broken : (told : Result (Unit {0}) RunFault) → IsFlushed out run_faults.Shell answer told
      → out.bytes out.new ≡ out.bytes out.old
  kept_broken told (flushes kept count) = kept
  kept_broken told (fails kept count) = kept

  count_broken : (told : Result (Unit {0}) RunFault) → IsFlushed out run_faults.Shell answer told
      → out.failures out.old ≤ out.failures out.new
  count_broken told (flushes kept count) = omega (arith, count)
  count_broken told (fails kept count) = omega (arith, count)

module _ {X : Type 0} (written : X → Option (List ℕ)) (failures : X → ℕ) (old mid new : X) where
  session_flushed : (file : List ℕ) (given : Given (List ℕ)) (answer : Result (Unit {0}) RunFault) (r : Result (Unit {0}) Exit)
      → CommandEnds (flow written failures old mid) run_faults.Shell (HoldsSession file given) answer
      ⊎ ((answer ≡ Err run_faults.Shell) × BreaksOff (flow written failures old mid) [])
      → EndsFlushed (flow written failures mid new) run_faults.Shell end_of answer r
      → Ends (seen written failures old new) run_faults.Shell end_of (HoldsSession file given) r
  session_flushed file given answer r (inl all) flushed =
      command_ends written failures old mid new run_faults.Shell (HoldsSession file given) answer r all flushed
  session_flushed file given answer r (inr (is, broken)) (told, flushed, ends) =
      let last = flow written failures mid new in
      unwritten (still_broken written failures old mid new [] broken (kept_broken last answer told flushed)
      (count_broken last answer told flushed)) (ends ∙ ap end_of (told_broken last answer told is flushed))

  pub session_ends : {Y Z : Type 0} (reader : Flow Y) (calls : Z → Option (List Call)) (files files_after : Z) (person : Bool)
      (file : List ℕ) (given : Given (List ℕ)) (answer : Result (Unit {0}) RunFault) (r : Result (Unit {0}) Exit)
      → EndsShell (record {
        reader = reader;
        out = flow written failures old mid;
        calls = calls;
        files = files;
        files_after = files_after;
      }) person file given answer
      → EndsFlushed (flow written failures mid new) run_faults.Shell end_of answer r
      → Ends (seen written failures old new) run_faults.Shell end_of (HoldsSession file given) r
  session_ends reader calls files files_after person file given answer r ends =
      session_flushed file given answer r (session_command (record {
        reader = reader;
        out = flow written failures old mid;
        calls = calls;
        files = files;
        files_after = files_after;
      }) person file given answer ends)
