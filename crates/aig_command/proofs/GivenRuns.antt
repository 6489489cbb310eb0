-- What is known of a run that is given.
use Rattle.std.proofs.Common.{◌≡◌, ℕ, ◌<◌, List, [], length, Result, refl, sym, ap, subst, ◌∙◌}
use Rattle.std.proofs.lemmas.List.{length-map}
use Rattle.std.proofs.lemmas.Result.{IfErr-weaker, IfOk-weaker}
use Rattle.std.specs.Prelude.{IfErr, IfOk, IfSome}
use Rattle.aig_parts.specs.declared.fault.Fault.{Fault}
use Rattle.aig_parts.specs.declared.raw.Raw.{Raw}
use Rattle.aig_parts.specs.declared.ternary.Tern.{Tern}
use Rattle.aig_base.specs.Value.{reset_value, start_of}
use Rattle.aig_command.specs.Given.{by_resets, IsGiven, ReadRun, RefusesGiven, read_run}
use Rattle.aig_command.specs.declared.given.Given.{Given}
use Rattle.aig_command.specs.declared.given.Given.TheVariants as given
use Rattle.aig_command.specs.declared.given.GivenRun.{GivenRun}
use Rattle.aig_command.specs.declared.run_fault.RunFault.{RunFault}
use Rattle.aig_command.specs.declared.run_fault.RunFault.TheVariants as run_faults

-- it starts each latch
started : (raw : Raw) → length (start_of raw) ≡ length raw.latches
started raw = length-map raw.latches (λ x. reset_value x.reset)

pub given_start : (raw : Raw) (g : Given (List ℕ)) (run : ReadRun) → IsGiven raw g run → length run.start ≡ length raw.latches
given_start raw given.Nothing run is = ap (λ (r : ReadRun). length r.start) is ∙ started raw
given_start raw (given.Stimulus text) run (rows, spelled, is) = ap (λ (r : ReadRun). length r.start) is ∙ started raw
given_start raw (given.Witness text) run (w, spelled, admitted, is) = ap (λ (r : ReadRun). length r.start) is ∙ spelled.start_is

-- the circuit has its property
pub given_property : (raw : Raw) (g : Given (List ℕ)) (run : ReadRun) → IsGiven raw g run
    → IfSome run.property (λ p. p < length raw.bad)
given_property raw given.Nothing run is = subst (λ (r : ReadRun). IfSome r.property (λ p. p < length raw.bad)) (sym is) tt
given_property raw (given.Stimulus text) run (rows, spelled, is) =
    subst (λ (r : ReadRun). IfSome r.property (λ p. p < length raw.bad)) (sym is) tt
given_property raw (given.Witness text) run (w, spelled, admitted, is) =
    subst (λ (r : ReadRun). IfSome r.property (λ p. p < length raw.bad)) (sym is) admitted.0

-- it is not refused for the circuit's file
pub given_no_circuit : (raw : Raw) (g : Given (List ℕ)) (fault : Fault) → RefusesGiven raw g (run_faults.Circuit fault) → ⊥
given_no_circuit raw given.Nothing fault h = h
given_no_circuit raw (given.Stimulus text) fault h = h
given_no_circuit raw (given.Witness text) fault h = h

-- a run by the resets, for each way that gives its rows
module _ (raw : Raw) (g kind : Given (List ℕ)) (same : g ≡ kind) (rows : List (List Tern)) (is : IsGiven raw kind (by_resets raw rows))
    (r : Result GivenRun RunFault) where
  pub by_resets_given : IfOk r (λ run. read_run run ≡ by_resets raw rows) → IfOk r (λ run. IsGiven raw g (read_run run))
  by_resets_given h =
      IfOk-weaker r _ _
      (λ run e. subst (λ (k : Given (List ℕ)). IsGiven raw k (read_run run)) (sym same) (subst (IsGiven raw kind) (sym e) is)) h

  pub by_resets_refused : (RefusesGiven raw kind run_faults.Memory) → IfErr r (λ fault. fault ≡ run_faults.Memory)
      → IfErr r (RefusesGiven raw g)
  by_resets_refused refused h =
      IfErr-weaker r _ _
      (λ fault e. subst (λ (k : Given (List ℕ)). RefusesGiven raw k fault) (sym same) (subst (RefusesGiven raw kind) (sym e) refused)) h
