-- `cut`: what its arguments choose, and how it ends.
-- Example: `cut --to aag --cuts FILE CIRCUIT` ends with the fault `cuts: line 1` where FILE is an empty line.
use Rattle.std.specs.Prelude.{ℕ, List, Option, IfSome, Result, codes}
use Rattle.clap.specs.declared.parser.matches.ArgMatches.{ArgMatches}
use Rattle.aig_bytes.specs.Flow.{Flow}
use Rattle.aig_command.specs.Command.{OfFile}
use Rattle.aig_command.specs.declared.run_fault.RunFault.TheVariants as run_faults
use Rattle.aig_commands.specs.Cut.{WritesCut}
use Rattle.aig_files.specs.declared.exit.Exit.{Exit}
use Rattle.aig_files.specs.declared.source.FileSource.{FileSource}
use Rattle.aig_program.specs.Chosen.{HoldsFormat}
use Rattle.aig_program.specs.ChosenFiles.{IsCircuitOf, IsNamedBy}
use Rattle.aig_program.specs.Ends.{Ends, Seen, end_of}
use Rattle.aig_program.specs.declared.commands.cut.CutCircuit.{CutCircuit}

abbrev pub OpensCut : {F : Type 0} → ArgMatches → CutCircuit (FileSource F) → Type 0
OpensCut matches it =
    HoldsFormat matches it.to × IsCircuitOf matches it.circuit × IsNamedBy matches (codes "cuts") it.cuts

abbrev pub EndsCut : {F : Type 0} → Flow Seen → (F → Option (List ℕ)) → CutCircuit F → Result (Unit {0}) Exit → Type 0
EndsCut out left it result =
    IfSome (left it.circuit) (λ file. IfSome (left it.cuts) (λ text.
    Ends out run_faults.Output end_of (OfFile file (WritesCut text it.to)) result))
