-- `why`: what its arguments choose, and how it ends.
-- Example: without `--of` it explains the property of a witness, which has to be given.
use Rattle.std.specs.Prelude.{◌≡◌, ℕ, List, Option, None, IfSome, Result, codes, option_map, option_copied}
use Rattle.clap.specs.Matches.{first_value, found_of}
use Rattle.clap.specs.declared.parser.matches.ArgMatches.{ArgMatches}
use Rattle.aig_bytes.specs.Flow.{Flow}
use Rattle.aig_command.specs.Command.{OfFile}
use Rattle.aig_why.specs.Why.{WritesWhy}
use Rattle.aig_files.specs.declared.exit.Exit.{Exit}
use Rattle.aig_files.specs.declared.source.FileSource.{FileSource}
use Rattle.aig_program.specs.Chosen.{HoldsForm, HoldsSpan}
use Rattle.aig_program.specs.ChosenFiles.{HoldsGiven, IsCircuitOf}
use Rattle.aig_program.specs.Ends.{Ends, Seen, end_of}
use Rattle.aig_program.specs.GivenFiles.{IsWitness, given_left}
use Rattle.aig_command.specs.declared.run_fault.RunFault.TheVariants as run_faults
use Rattle.aig_program.specs.declared.commands.why.Why.{Why}

abbrev pub OpensWhy : {F : Type 0} → ArgMatches → Why (FileSource F) → Type 0
OpensWhy matches it =
    (option_map (λ text. text.now) it.name ≡ first_value (found_of matches) (codes "of"))
    × HoldsSpan matches it.span × HoldsForm matches it.form × (it.name ≡ None → IsWitness it.given)
    × IsCircuitOf matches it.circuit × HoldsGiven matches it.given

abbrev pub EndsWhy : {F : Type 0} → Flow Seen → (F → Option (List ℕ)) → Why F → Result (Unit {0}) Exit → Type 0
EndsWhy out left it result =
    IfSome (left it.circuit) (λ file. IfSome (given_left left it.given) (λ run.
    Ends out run_faults.Output end_of (OfFile file (WritesWhy it.form run (option_copied it.name) it.span)) result))
