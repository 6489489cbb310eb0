-- `refute`: what its arguments choose, and how it ends.
-- Example: `refute --frames 20 --property b1`: a good end says so of K 20 and P 1.
use Rattle.std.specs.Prelude.{ℕ, List, Option, IfSome, Result, codes}
use Rattle.clap.specs.declared.parser.matches.ArgMatches.{ArgMatches}
use Rattle.aig_bytes.specs.Flow.{Flow}
use Rattle.aig_commands.specs.Questions.{RefutesQuestion, Says}
use Rattle.aig_files.specs.declared.exit.Exit.{Exit}
use Rattle.aig_files.specs.declared.source.FileSource.{FileSource}
use Rattle.aig_program.specs.Chosen.{HoldsAsked, HoldsCertificate, is_given}
use Rattle.aig_program.specs.ChosenFiles.{HoldsClaimed, HoldsStep, IsCircuitOf, IsNamedBy}
use Rattle.aig_program.specs.Ends.{Ends, Seen, end_of}
use Rattle.aig_program.specs.Questions.{asked_by, claims_left}
use Rattle.aig_command.specs.declared.run_fault.RunFault.TheVariants as run_faults
use Rattle.aig_program.specs.declared.commands.refute.Refute.{Refute}

abbrev pub OpensRefute : {F : Type 0} → ArgMatches → Refute (FileSource F) → Type 0
OpensRefute matches it =
    HoldsAsked matches (is_given matches (codes "step")) it.circuit it.question
    × HoldsCertificate matches it.question × IsCircuitOf matches it.circuit × HoldsClaimed matches it.question
    × IsNamedBy matches (codes "PROOF") it.proof × HoldsStep matches it.step

abbrev pub EndsRefute : {F : Type 0} → Flow Seen → (F → Option (List ℕ)) → Refute F → Result (Unit {0}) Exit → Type 0
EndsRefute out left it result =
    IfSome (left it.circuit) (λ file. IfSome (claims_left left it.question) (λ claims.
    Ends out run_faults.Output end_of (RefutesQuestion (asked_by it.question (λ certificate. claims)) file) result))

-- a good end says what the proof is about, for some certificate
abbrev pub GoodRefute : {F : Type 0} → (F → Option (List ℕ)) → Refute F → Type 0
GoodRefute left it =
    IfSome (left it.circuit) (λ file. (claims : List ℕ) × Says (asked_by it.question (λ certificate. claims)) file)
