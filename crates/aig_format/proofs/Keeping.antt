-- How a call that reads follows calls that none failed.
use Rattle.std.proofs.Common.{◌≡◌, ◌≤◌, ℕ, List, Result, Ok, Err, sym, ◌∙◌, arith, subst}
use Rattle.aig_parts.specs.declared.fault.Fault.{Fault}
use Rattle.aig_format.specs.declared.reader.source.Source.{Ghosts}
use Rattle.aig_format.specs.FileReading.{Raises, FaultRaises}
use Rattle.aig_format.specs.state.ReaderAnswers.{Fails, Gives}
use Rattle.aig_format.specs.state.Reading.{Read}
use Rattle.aig_format.specs.state.Reads.{ReadsAs, KeepsSource}

module _ {S : Type 0} {source : Ghosts S} where
  pub keeps_on : {old mid new : S} → KeepsSource source old mid → KeepsSource source mid new → KeepsSource source old new
  keeps_on k l = record {
    reported = λ reported. l.reported (k.reported reported);
    reader = l.reader ∙ k.reader;
    failures = l.failures ∙ k.failures;
    never_more = omega (arith, l.never_more, k.never_more);
  }

  pub kept : {X Y : Type 0} {old new : S} {view : X → Y} {x : X} {read : List ℕ → Read Y}
      → ReadsAs source old new view (Ok x) read → KeepsSource source old new
  kept r = record { reported = r.reported; reader = r.reader; failures = r.failures; never_more = r.never_more }

  pub keeps_then : {X Y : Type 0} {old mid new : S} {view : X → Y} {x : X} {read : List ℕ → Read Y}
      → KeepsSource source old mid → ReadsAs source mid new view (Ok x) read → KeepsSource source old new
  keeps_then k r = keeps_on k (kept r)

  -- one more call of the source
  pub keeps_step : {old mid new : S} → KeepsSource source old mid → (source.reports mid → source.reports new)
      → source.reader new ≡ source.reader mid → source.failures new ≡ source.failures mid
      → source.more new ≤ source.more mid → KeepsSource source old new
  keeps_step k reported reader failures more =
      keeps_on k (record { reported = reported; reader = reader; failures = failures; never_more = more })

  -- an answer that is no failed read
  pub keeps_reads : {X Y : Type 0} {old new : S} {view : X → Y} {result : Result X Fault} {read : List ℕ → Read Y}
      → KeepsSource source old new → ((n : ℕ) → Raises result n n)
      → (source.reports old → Gives view result (source.left new) (read (source.left old)))
      → ReadsAs source old new view result read
  keeps_reads {old} {result} k same bytes = record {
    bytes = bytes;
    reported = k.reported;
    reader = k.reader;
    failures = subst (Raises result (source.failures old)) (sym k.failures) (same (source.failures old));
    never_more = k.never_more;
  }

  -- a call that is refused
  pub err_reads : {X Y Z W : Type 0} {old mid new : S} {view : X → Y} {view' : Z → W} {e : Fault}
      {read : List ℕ → Read Y} {read' : List ℕ → Read W}
      → KeepsSource source old mid → ReadsAs source mid new view (Err e) read
      → (source.reports old → Fails e (read (source.left mid)) → Fails e (read' (source.left old)))
      → ReadsAs source old new view' (Err e) read'
  err_reads {new} {e} k r bytes = record {
    bytes = λ reported. bytes reported (r.bytes (k.reported reported));
    reported = λ reported. r.reported (k.reported reported);
    reader = r.reader ∙ k.reader;
    failures = subst (λ (n : ℕ). FaultRaises e n (source.failures new)) k.failures r.failures;
    never_more = omega (arith, r.never_more, k.never_more);
  }
