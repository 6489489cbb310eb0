-- `check`: what its arguments choose, and how it ends.
-- Example: `check --property b1 CIRCUIT WITNESS` ends well only for a witness of the second property.
use Rattle.std.specs.Prelude.{ℕ, List, Option, IfSome, Result, codes, false, true}
use Rattle.clap.specs.declared.parser.matches.ArgMatches.{ArgMatches}
use Rattle.aig_bytes.specs.Flow.{Flow}
use Rattle.aig_command.specs.Command.{OfFile}
use Rattle.aig_commands.specs.Check.{AreConfirmed}
use Rattle.aig_commands.specs.CheckAlive.{AreAlive, ChecksRun}
use Rattle.aig_files.specs.declared.exit.Exit.{Exit}
use Rattle.aig_files.specs.declared.source.FileSource.{FileSource}
use Rattle.aig_cli.specs.Held.{HoldsFlag, HoldsNumber}
use Rattle.aig_program.specs.Chosen.{HoldsReached, HoldsShown}
use Rattle.aig_program.specs.ChosenFiles.{IsCircuitOf, IsNamedBy}
use Rattle.aig_program.specs.Ends.{ChecksWitness, Ends, Seen, end_of_alive, end_of_verdict}
use Rattle.aig_command.specs.declared.run_fault.RunFault.TheVariants as run_faults
use Rattle.aig_program.specs.declared.commands.check.Check.{Check}
use Rattle.aig_program.specs.declared.commands.check.CheckAlive.{CheckAlive}

abbrev pub OpensCheck : {F : Type 0} → ArgMatches → Check (FileSource F) → Type 0
OpensCheck matches it =
    HoldsFlag matches (codes "alive") false × HoldsShown matches it.shown
    × HoldsReached matches it.circuit it.property × IsCircuitOf matches it.circuit
    × IsNamedBy matches (codes "WITNESS") it.witness

abbrev pub EndsCheck : {F : Type 0} → Flow Seen → (F → Option (List ℕ)) → Check F → Result (Unit {0}) Exit → Type 0
EndsCheck out left it result =
    IfSome (left it.circuit) (λ file. IfSome (left it.witness) (λ text.
    Ends out run_faults.Output end_of_verdict (OfFile file (ChecksWitness it.shown it.property text)) result))

-- a good end says that the witness is confirmed
abbrev pub GoodCheck : {F : Type 0} → (F → Option (List ℕ)) → Check F → Type 0
GoodCheck left it = IfSome (left it.circuit) (λ file. IfSome (left it.witness) (AreConfirmed it.property file))

-- with `--alive`
abbrev pub OpensCheckAlive : {F : Type 0} → ArgMatches → CheckAlive (FileSource F) → Type 0
OpensCheckAlive matches it =
    HoldsFlag matches (codes "alive") true × HoldsNumber matches (codes "K") it.frames
    × IsCircuitOf matches it.circuit × IsNamedBy matches (codes "WITNESS") it.witness

abbrev pub EndsCheckAlive : {F : Type 0} → Flow Seen → (F → Option (List ℕ)) → CheckAlive F → Result (Unit {0}) Exit
    → Type 0
EndsCheckAlive out left it result =
    IfSome (left it.circuit) (λ file. IfSome (left it.witness) (λ text.
    Ends out run_faults.Output end_of_alive (OfFile file (ChecksRun it.frames text)) result))

-- a good end says that the run keeps all constraints
abbrev pub GoodCheckAlive : {F : Type 0} → (F → Option (List ℕ)) → CheckAlive F → Type 0
GoodCheckAlive left it = IfSome (left it.circuit) (λ file. IfSome (left it.witness) (AreAlive it.frames file))
