-- `cnf`: what its arguments choose, and how it ends.
-- Example: `cnf --certificate AIG CIRCUIT` asks by the certificate in that file.
use Rattle.std.specs.Prelude.{ℕ, List, Option, IfSome, Result}
use Rattle.clap.specs.declared.parser.matches.ArgMatches.{ArgMatches}
use Rattle.aig_bytes.specs.Flow.{Flow}
use Rattle.aig_commands.specs.Questions.{WritesQuestion}
use Rattle.aig_files.specs.declared.exit.Exit.{Exit}
use Rattle.aig_files.specs.declared.source.FileSource.{FileSource}
use Rattle.aig_program.specs.Chosen.{HoldsQuestion}
use Rattle.aig_program.specs.ChosenFiles.{HoldsClaimed, IsCircuitOf}
use Rattle.aig_program.specs.Ends.{Ends, Seen, end_of}
use Rattle.aig_program.specs.Questions.{asked_by, claims_left}
use Rattle.aig_command.specs.declared.run_fault.RunFault.TheVariants as run_faults
use Rattle.aig_program.specs.declared.commands.cnf.Cnf.{Cnf}

abbrev pub OpensCnf : {F : Type 0} → ArgMatches → Cnf (FileSource F) → Type 0
OpensCnf matches it =
    HoldsQuestion matches it.circuit it.question × IsCircuitOf matches it.circuit × HoldsClaimed matches it.question

abbrev pub EndsCnf : {F : Type 0} → Flow Seen → (F → Option (List ℕ)) → Cnf F → Result (Unit {0}) Exit → Type 0
EndsCnf out left it result =
    IfSome (left it.circuit) (λ file. IfSome (claims_left left it.question) (λ claims.
    Ends out run_faults.Output end_of (WritesQuestion (asked_by it.question (λ certificate. claims)) file) result))
