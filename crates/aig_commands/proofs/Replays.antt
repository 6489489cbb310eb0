-- The run of a witness as it is shown: its dump; its trace, and after it a verdict's line.
use Rattle.std.proofs.Common.{◌≡◌, ℕ, ◌+◌, List, [], ◌++◌, Result, Ok, Err, sym, ap, ◌∙◌, append_assoc, arith, refl}
use Rattle.std.specs.Prelude.{Option}
use Rattle.aig_parts.specs.declared.raw.Raw.{Raw}
use Rattle.aig_bytes.specs.Bytes.{after, IsBeginning, Writes}
use Rattle.aig_bytes.proofs.WriteLemmas.{after-append}
use Rattle.aig_sim.specs.declared.witness.verdict.Verdict.{Verdict}
use Rattle.aig_command.specs.declared.run_fault.RunFault.{RunFault}
use Rattle.aig_command.specs.declared.run_fault.RunFault.TheVariants as run_faults
use Rattle.aig_sim.specs.declared.witness.verdict.Verdict.TheVariants.{Confirmed}
use Rattle.aig_sim.specs.Verdict.{IsVerdict, IsConfirmed, ShowsVerdict}
use Rattle.aig_sim.specs.WitnessText.{Witness, SpellsWitness, IsAdmitted}

-- a witness that is admitted shows its verdict
pub shows_so : (raw : Raw) (text : List ℕ) (v : Verdict) (w : Witness) → SpellsWitness raw text w → IsAdmitted raw w
    → IsVerdict raw w v → (v ≡ Confirmed → IsConfirmed raw w) → ShowsVerdict raw text v
shows_so raw text v w spelled admitted shown confirmed =
    record { witness = w; text_is = spelled; admitted = admitted; verdict_is = shown; confirmed = confirmed }

module _ {X : Type 0} (written : X → Option (List ℕ)) (failures : X → ℕ) (old new : X) (reported line : List ℕ) where
  -- a write of the trace failed
  pub trace_stopped : (done : List ℕ) → IsBeginning done reported → written new ≡ after (written old) done
      → failures new ≡ failures old + 1
      → Writes {T = Verdict} {E = RunFault} written failures old new (reported ++ line) (Err run_faults.Output)
  trace_stopped done (rest, is) wrote count = record {
    ok = tt;
    err = (done, (rest ++ line, ap (λ (xs : List ℕ). xs ++ line) is ∙ append_assoc done rest line), wrote);
    count = count;
  }

  module _ (mid : X) (traced : written mid ≡ after (written old) reported) (none : failures mid ≡ failures old) where
    on_from : (bytes : List ℕ) → written new ≡ after (written mid) bytes → written new ≡ after (written old) (reported ++ bytes)
    on_from bytes wrote =
        wrote ∙ ap (λ (w : Option (List ℕ)). after w bytes) traced ∙ after-append (written old) reported bytes

    -- both were written
    pub both_written : (verdict : Verdict) → written new ≡ after (written mid) line → failures new ≡ failures mid + 0
        → Writes {T = Verdict} {E = RunFault} written failures old new (reported ++ line) (Ok verdict)
    both_written verdict wrote count =
        record { ok = on_from line wrote; err = tt; count = omega (arith, none, count) }

    -- a write of the line failed
    pub line_stopped : (done : List ℕ) → IsBeginning done line → written new ≡ after (written mid) done
        → failures new ≡ failures mid + 1
        → Writes {T = Verdict} {E = RunFault} written failures old new (reported ++ line) (Err run_faults.Output)
    line_stopped done (rest, is) wrote count = record {
      ok = tt;
      err = (reported ++ done, (rest, ap (λ (xs : List ℕ). reported ++ xs) is ∙ sym (append_assoc reported done rest)), on_from done wrote);
      count = omega (arith, none, count);
    }
