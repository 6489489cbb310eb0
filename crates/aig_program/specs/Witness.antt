-- `witness`: what its arguments choose, and how it ends.
-- Example: `witness --model FILE --frames 20 CIRCUIT` writes the run that the model in that file names.
use Rattle.std.specs.Prelude.{◌≡◌, ℕ, List, Option, IfSome, Result, codes, false, true}
use Rattle.clap.specs.declared.parser.matches.ArgMatches.{ArgMatches}
use Rattle.aig_bytes.specs.Flow.{Flow}
use Rattle.aig_command.specs.Command.{OfFile}
use Rattle.aig_commands.specs.Questions.{NamesQuestion}
use Rattle.aig_commands.specs.Witness.{WritesWitness}
use Rattle.aig_files.specs.declared.exit.Exit.{Exit}
use Rattle.aig_files.specs.declared.source.FileSource.{FileSource}
use Rattle.aig_program.specs.Chosen.{HoldsQuestion, HoldsReached, is_given}
use Rattle.aig_program.specs.ChosenFiles.{HoldsClaimed, IsCircuitOf, IsNamedBy}
use Rattle.aig_program.specs.Ends.{Ends, Seen, end_of}
use Rattle.aig_program.specs.Questions.{asked_by, claims_left}
use Rattle.aig_command.specs.declared.run_fault.RunFault.TheVariants as run_faults
use Rattle.aig_program.specs.declared.commands.witness.ModelWitness.{ModelWitness}
use Rattle.aig_program.specs.declared.commands.witness.StimulusWitness.{StimulusWitness}

abbrev pub OpensWitness : {F : Type 0} → ArgMatches → StimulusWitness (FileSource F) → Type 0
OpensWitness matches it =
    (is_given matches (codes "model") ≡ false) × HoldsReached matches it.circuit it.property
    × IsCircuitOf matches it.circuit × IsNamedBy matches (codes "STIM") it.stimulus

abbrev pub EndsWitness : {F : Type 0} → Flow Seen → (F → Option (List ℕ)) → StimulusWitness F → Result (Unit {0}) Exit → Type 0
EndsWitness out left it result =
    IfSome (left it.circuit) (λ file. IfSome (left it.stimulus) (λ text.
    Ends out run_faults.Output end_of (OfFile file (WritesWitness it.property text)) result))

-- with `--model`
abbrev pub OpensModelWitness : {F : Type 0} → ArgMatches → ModelWitness (FileSource F) → Type 0
OpensModelWitness matches it =
    (is_given matches (codes "model") ≡ true) × HoldsQuestion matches it.circuit it.question
    × IsCircuitOf matches it.circuit × HoldsClaimed matches it.question × IsNamedBy matches (codes "model") it.model

abbrev pub EndsModelWitness : {F : Type 0} → Flow Seen → (F → Option (List ℕ)) → ModelWitness F → Result (Unit {0}) Exit
    → Type 0
EndsModelWitness out left it result =
    IfSome (left it.circuit) (λ file. IfSome (claims_left left it.question) (λ claims. IfSome (left it.model) (λ text.
    Ends out run_faults.Output end_of (NamesQuestion (asked_by it.question (λ certificate. claims)) text file) result)))
