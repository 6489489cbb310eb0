-- A run that can be reported as a failed write.
-- Example: `aag 0 0 0 0 1/` does not go well, so no failed write is reported of it.
use Rattle.std.specs.Prelude.{◌≡◌, ◌≢◌, ◌+◌, ◌≤◌, ℕ, List, IfErr, Result, Ok, Err}
use Rattle.aig_bytes.specs.Flow.{Flow}
use Rattle.aig_command.specs.declared.run_fault.RunFault.{RunFault}
use Rattle.aig_command.specs.declared.run_fault.RunFault.TheVariants.{Output}

-- the input is accepted: `Means` gives bytes for it, with an answer that all went well
abbrev pub GoesWell : {T : Type 0} → (Result T RunFault → List ℕ → Type 0) → Type 0
GoesWell {T = T} Means = (value : T) × (bytes : List ℕ) × Means (Ok value) bytes

-- At most one write of a run failed. A rejected input leaves the writer as it was, and a failed write is reported only of
-- an accepted one.
pub record WritesOnce {X T : Type 0} (Means : Result T RunFault → List ℕ → Type 0) (out : Flow X) (answer : Result T RunFault)
    : Type 0 where
  pub count : out.failures out.new ≤ out.failures out.old + 1
  pub refused : IfErr answer (λ fault. fault ≢ Output → out.new ≡ out.old)
  pub output : answer ≡ Err Output → GoesWell Means
