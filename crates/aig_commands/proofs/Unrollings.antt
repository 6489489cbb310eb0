-- An unrolling whose answer is the circuit that was read.
use Rattle.std.proofs.Common.{◌≡◌, ℕ, List, Result, Ok, Err, refl}
use Rattle.aig_parts.specs.declared.raw.Raw.{Raw}
use Rattle.aig_bytes.specs.Flow.{Flow}
use Rattle.aig_format.specs.declared.reader.header.Format.{Format}
use Rattle.aig_command.specs.declared.run_fault.RunFault.{RunFault}
use Rattle.aig_command.specs.declared.run_fault.RunFault.TheVariants as run_faults
use Rattle.aig_command.specs.Command.{CommandEnds}
use Rattle.aig_command.proofs.Written.{through, keeps_through, ends_changed}
use Rattle.aig_commands.specs.Unroll.{Unrolls, UnrollsKept}

module _ {X : Type 0} (out : Flow X) (k : ℕ) (to : Format) (raw : Raw) where
  kept_means : (answer : Result (Unit {0}) RunFault) (bytes : List ℕ) → Unrolls k to raw answer bytes
      → UnrollsKept k to raw (through (λ done. raw) answer) bytes
  kept_means (Ok done) bytes m = (refl, m)
  kept_means (Err fault) bytes m = m

  pub kept_ends : (r : Result (Unit {0}) RunFault) → CommandEnds out run_faults.Output (Unrolls k to raw) r
      → CommandEnds out run_faults.Output (UnrollsKept k to raw) (through (λ done. raw) r)
  kept_ends =
      ends_changed out run_faults.Output (Unrolls k to raw) (UnrollsKept k to raw) (through (λ done. raw))
      (keeps_through (λ done. raw)) kept_means
