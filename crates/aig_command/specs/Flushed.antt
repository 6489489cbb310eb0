-- A flush after a run.
-- Example: stimulus `11/1/` to a full device: `input or output` is reported in place of the command's `length of line
-- 2`.
use Rattle.std.specs.Prelude.{◌≡◌, ◌+◌, Result, Err}
use Rattle.aig_bytes.specs.Flow.{Flow}
use Rattle.aig_command.specs.declared.run_fault.RunFault.{RunFault}

-- What was written stays, whether the flush fails or not. Where it does not, so does the answer; else that is `fault`.
pub data IsFlushed {X T : Type 0} (out : Flow X) (fault : RunFault) (answer : Result T RunFault) : Result T RunFault
    → Type 0 where
  flushes : out.bytes out.new ≡ out.bytes out.old → out.failures out.new ≡ out.failures out.old
      → IsFlushed out fault answer answer
  fails : out.bytes out.new ≡ out.bytes out.old → out.failures out.new ≡ out.failures out.old + 1
      → IsFlushed out fault answer (Err fault)
