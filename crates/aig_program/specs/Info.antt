-- `info`: what its arguments choose, and how it ends.
-- Example: `info --names --json CIRCUIT` lists the entries of that file, each as an object.
use Rattle.std.specs.Prelude.{ℕ, List, Option, Some, IfSome, Result, codes, false, true}
use Rattle.clap.specs.declared.parser.matches.ArgMatches.{ArgMatches}
use Rattle.aig_bytes.specs.Flow.{Flow}
use Rattle.aig_command.specs.Command.{OfFile}
use Rattle.aig_commands.specs.Info.{ListsFacts}
use Rattle.aig_commands.specs.Names.{ListsNamesAs}
use Rattle.aig_files.specs.declared.exit.Exit.{Exit}
use Rattle.aig_files.specs.declared.source.FileSource.{FileSource}
use Rattle.aig_cli.specs.Held.{HoldsFlag}
use Rattle.aig_program.specs.Chosen.{HoldsForm}
use Rattle.aig_program.specs.ChosenFiles.{IsCircuitOf}
use Rattle.aig_program.specs.Ends.{Ends, Seen, end_of}
use Rattle.aig_command.specs.declared.run_fault.RunFault.TheVariants as run_faults
use Rattle.aig_program.specs.declared.commands.info.Info.{Info}
use Rattle.aig_program.specs.declared.commands.info.InfoNames.{InfoNames}

abbrev pub OpensInfo : {F : Type 0} → ArgMatches → Info (FileSource F) → Type 0
OpensInfo matches it = HoldsFlag matches (codes "names") false × IsCircuitOf matches it.circuit

abbrev pub EndsInfo : {F : Type 0} → Flow Seen → (F → Option (List ℕ)) → Info F → Result (Unit {0}) Exit → Type 0
EndsInfo out left it result =
    IfSome (left it.circuit) (λ file. Ends out run_faults.Output end_of (OfFile file (ListsFacts (Some file))) result)

-- with `--names`
abbrev pub OpensInfoNames : {F : Type 0} → ArgMatches → InfoNames (FileSource F) → Type 0
OpensInfoNames matches it =
    HoldsFlag matches (codes "names") true × HoldsForm matches it.form × IsCircuitOf matches it.circuit

abbrev pub EndsInfoNames : {F : Type 0} → Flow Seen → (F → Option (List ℕ)) → InfoNames F → Result (Unit {0}) Exit
    → Type 0
EndsInfoNames out left it result =
    IfSome (left it.circuit) (λ file. Ends out run_faults.Output end_of (OfFile file (ListsNamesAs it.form)) result)
