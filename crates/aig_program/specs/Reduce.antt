-- `reduce`: what its arguments choose, and how it ends.
-- Example: `reduce CIRCUIT WITNESS` ends as `not bad` where that witness reaches nothing.
use Rattle.std.specs.Prelude.{ℕ, List, Option, IfSome, Result, codes}
use Rattle.clap.specs.declared.parser.matches.ArgMatches.{ArgMatches}
use Rattle.aig_bytes.specs.Flow.{Flow}
use Rattle.aig_command.specs.Command.{OfFile}
use Rattle.aig_commands.specs.Reduce.{Reduces}
use Rattle.aig_files.specs.declared.exit.Exit.{Exit}
use Rattle.aig_files.specs.declared.source.FileSource.{FileSource}
use Rattle.aig_program.specs.ChosenFiles.{IsCircuitOf, IsNamedBy}
use Rattle.aig_program.specs.Ends.{Ends, Seen, end_of_verdict}
use Rattle.aig_command.specs.declared.run_fault.RunFault.TheVariants as run_faults
use Rattle.aig_program.specs.declared.commands.reduce.Reduce.{Reduce}

abbrev pub OpensReduce : {F : Type 0} → ArgMatches → Reduce (FileSource F) → Type 0
OpensReduce matches it = IsCircuitOf matches it.circuit × IsNamedBy matches (codes "WITNESS") it.witness

abbrev pub EndsReduce : {F : Type 0} → Flow Seen → (F → Option (List ℕ)) → Reduce F → Result (Unit {0}) Exit → Type 0
EndsReduce out left it result =
    IfSome (left it.circuit) (λ file. IfSome (left it.witness) (λ text.
    Ends out run_faults.Output end_of_verdict (OfFile file (Reduces text)) result))
