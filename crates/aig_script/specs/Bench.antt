-- What a script on a bench means, from bytes to bytes (our own choice).
-- Example: `v 0 8/v 0` on `examples/two_gates.aag` with `11/`: `1/bad/`; where a read fails after it: `1/`, and no
-- bench.
use Rattle.std.specs.Prelude.{◌≡◌, ℕ, List, [], IsTrue, Result, Ok, Err}
use Rattle.aig_bench.specs.BenchState.{CircuitAndRows, BenchState}
use Rattle.aig_script.specs.Lines.{whole_lines, lines_of}
use Rattle.aig_script.specs.Replies.{Replies}
use Rattle.aig_command.specs.Command.{Text}
use Rattle.aig_command.specs.declared.run_fault.RunFault.{RunFault}
use Rattle.aig_command.specs.declared.run_fault.RunFault.TheVariants.{Script}
use Rattle.aig_command.specs.declared.script_fault.ScriptFault.TheVariants as scripts
use Rattle.aig_script.specs.BenchFiles.{AreBenchFiles, RefusesFiles}

-- Which bytes are written for what was read of a script, with which answer: the replies to all lines of a whole script;
-- else those to the lines that an LF ends. Where no memory is found for the script, or a file is refused, nothing is
-- read or written.
abbrev pub RunsScript : List ℕ → List ℕ → Text → Result (Unit {0}) RunFault → List ℕ → Type 0
RunsScript circuit stimulus script (Ok done) bytes =
    (pair new : CircuitAndRows) × AreBenchFiles circuit stimulus pair × IsTrue script.is_whole
    × Replies pair (lines_of script.bytes) bytes new
RunsScript circuit stimulus script (Err (Script scripts.Io)) bytes =
    (pair new : CircuitAndRows) × AreBenchFiles circuit stimulus pair
    × Replies pair (whole_lines script.bytes) bytes new
RunsScript circuit stimulus script (Err (Script scripts.Memory)) bytes =
    ((pair : CircuitAndRows) × AreBenchFiles circuit stimulus pair) × (script.bytes ≡ []) × (bytes ≡ [])
RunsScript circuit stimulus script (Err fault) bytes =
    RefusesFiles circuit stimulus fault × (script.bytes ≡ []) × (bytes ≡ [])

-- The same with the bench that is left: it has the pair that the replies end with. Where the answer is a fault there is
-- no bench.
abbrev pub LeavesBench : List ℕ → List ℕ → Text → Result BenchState RunFault → List ℕ → Type 0
LeavesBench circuit stimulus script (Ok bench) bytes =
    (pair : CircuitAndRows) × AreBenchFiles circuit stimulus pair × IsTrue script.is_whole
    × Replies pair (lines_of script.bytes) bytes bench.pair
LeavesBench circuit stimulus script (Err fault) bytes = RunsScript circuit stimulus script (Err fault) bytes
