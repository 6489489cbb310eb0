-- `toaig`: what its arguments choose, and how it ends.
-- Example: `toaig --to aig CIRCUIT` writes the circuit of that file in the binary format.
use Rattle.std.specs.Prelude.{ℕ, List, Option, IfSome, Result}
use Rattle.clap.specs.declared.parser.matches.ArgMatches.{ArgMatches}
use Rattle.aig_bytes.specs.Flow.{Flow}
use Rattle.aig_command.specs.Command.{OfFile}
use Rattle.aig_commands.specs.Toaig.{Converts}
use Rattle.aig_files.specs.declared.exit.Exit.{Exit}
use Rattle.aig_files.specs.declared.source.FileSource.{FileSource}
use Rattle.aig_program.specs.Chosen.{HoldsFormat}
use Rattle.aig_program.specs.ChosenFiles.{IsCircuitOf}
use Rattle.aig_program.specs.Ends.{Ends, Seen, end_of}
use Rattle.aig_command.specs.declared.run_fault.RunFault.TheVariants as run_faults
use Rattle.aig_program.specs.declared.commands.toaig.Toaig.{Toaig}

abbrev pub OpensToaig : {F : Type 0} → ArgMatches → Toaig (FileSource F) → Type 0
OpensToaig matches it = HoldsFormat matches it.to × IsCircuitOf matches it.circuit

abbrev pub EndsToaig : {F : Type 0} → Flow Seen → (F → Option (List ℕ)) → Toaig F → Result (Unit {0}) Exit → Type 0
EndsToaig out left it result =
    IfSome (left it.circuit) (λ file. Ends out run_faults.Output end_of (OfFile file (Converts it.to)) result)
