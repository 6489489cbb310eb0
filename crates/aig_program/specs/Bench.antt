-- `bench`: what its arguments choose, and how it ends.
-- Example: `bench --circuit-out FILE CIRCUIT STIM SCRIPT` keeps in that file the circuit that the script leaves.
use Rattle.std.specs.Prelude.{ℕ, List, Option, IfSome, Result, codes}
use Rattle.clap.specs.declared.parser.matches.ArgMatches.{ArgMatches}
use Rattle.aig_bytes.specs.Flow.{Flow}
use Rattle.aig_script.specs.Bench.{LeavesBench}
use Rattle.aig_files.specs.declared.exit.Exit.{Exit}
use Rattle.aig_files.specs.declared.source.FileSource.{FileSource}
use Rattle.aig_program.specs.ChosenFiles.{HoldsKept, IsCircuitOf, IsNamedBy}
use Rattle.aig_program.specs.Ends.{EndsKeeping, OfText, Seen}
use Rattle.aig_command.specs.declared.run_fault.RunFault.TheVariants as run_faults
use Rattle.aig_command.specs.declared.script_fault.ScriptFault.TheVariants as scripts
use Rattle.aig_program.specs.declared.commands.bench.BenchReplies.{BenchReplies}

abbrev pub OpensBench : {F : Type 0} → ArgMatches → BenchReplies (FileSource F) → Type 0
OpensBench matches it =
    IsCircuitOf matches it.circuit × IsNamedBy matches (codes "STIM") it.stimulus
    × IsNamedBy matches (codes "SCRIPT") it.script × HoldsKept matches it.kept

-- it ends so for what it has read of the script
abbrev pub EndsBench : {F : Type 0} → Flow Seen → (F → Option (List ℕ)) → BenchReplies F → Result (Unit {0}) Exit → Type 0
EndsBench out left it result =
    IfSome (left it.circuit) (λ file. IfSome (left it.stimulus) (λ rows. IfSome (left it.script) (λ lines.
    EndsKeeping out (run_faults.Script scripts.Io) (OfText lines (LeavesBench file rows)) result)))
