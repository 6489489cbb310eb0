-- `strengthen`: what its arguments choose, and how it ends.
-- Example: `strengthen --to aag --certificate AIG CIRCUIT` writes the circuit with the claims of that file.
use Rattle.std.specs.Prelude.{ℕ, List, Option, IfSome, Result, codes}
use Rattle.clap.specs.declared.parser.matches.ArgMatches.{ArgMatches}
use Rattle.aig_bytes.specs.Flow.{Flow}
use Rattle.aig_commands.specs.Certified.{OfCertified}
use Rattle.aig_commands.specs.Toaig.{Converts}
use Rattle.aig_files.specs.declared.exit.Exit.{Exit}
use Rattle.aig_files.specs.declared.source.FileSource.{FileSource}
use Rattle.aig_program.specs.Chosen.{HoldsFormat, HoldsProperty}
use Rattle.aig_program.specs.ChosenFiles.{IsCircuitOf, IsNamedBy}
use Rattle.aig_program.specs.Ends.{Ends, Seen, end_of}
use Rattle.aig_command.specs.declared.run_fault.RunFault.TheVariants as run_faults
use Rattle.aig_commands.specs.declared.certified.Purpose.TheVariants as purposes
use Rattle.aig_program.specs.declared.commands.strengthen.Strengthen.{Strengthen}

abbrev pub OpensStrengthen : {F : Type 0} → ArgMatches → Strengthen (FileSource F) → Type 0
OpensStrengthen matches it =
    HoldsProperty matches it.circuit it.property × HoldsFormat matches it.to × IsCircuitOf matches it.circuit
    × IsNamedBy matches (codes "certificate") it.certificate

abbrev pub EndsStrengthen : {F : Type 0} → Flow Seen → (F → Option (List ℕ)) → Strengthen F → Result (Unit {0}) Exit
    → Type 0
EndsStrengthen out left it result =
    IfSome (left it.circuit) (λ file. IfSome (left it.certificate) (λ claims.
    Ends out run_faults.Output end_of (OfCertified purposes.Circuit file it.property claims (Converts it.to)) result))
