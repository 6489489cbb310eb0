-- `unroll`: what its arguments choose, and how it ends.
-- Example: `unroll --frames 3 --to aag --map FILE CIRCUIT` keeps in that file what the inputs are.
use Rattle.std.specs.Prelude.{◌≡◌, ℕ, List, Option, Some, IfSome, Result, codes, false}
use Rattle.clap.specs.Matches.{first_value, found_of}
use Rattle.clap.specs.declared.parser.matches.ArgMatches.{ArgMatches}
use Rattle.aig_bytes.specs.Flow.{Flow}
use Rattle.aig_command.specs.Command.{OfFile}
use Rattle.aig_commands.specs.Unroll.{UnrollsKept}
use Rattle.aig_files.specs.declared.exit.Exit.{Exit}
use Rattle.aig_files.specs.declared.source.FileSource.{FileSource}
use Rattle.aig_cli.specs.Held.{HoldsNumber}
use Rattle.aig_program.specs.Chosen.{HoldsFormat, is_given}
use Rattle.aig_program.specs.ChosenFiles.{IsCircuitOf}
use Rattle.aig_program.specs.Ends.{Ends, EndsKeeping, Seen, end_of}
use Rattle.aig_command.specs.declared.run_fault.RunFault.TheVariants as run_faults
use Rattle.aig_program.specs.declared.commands.unroll.Unroll.{Unroll}
use Rattle.aig_program.specs.declared.commands.unroll.UnrollAndMap.{UnrollAndMap}

abbrev pub OpensUnroll : {F : Type 0} → ArgMatches → Unroll (FileSource F) → Type 0
OpensUnroll matches it =
    HoldsNumber matches (codes "K") (Some it.frames) × HoldsFormat matches it.to
    × (is_given matches (codes "map") ≡ false) × IsCircuitOf matches it.circuit

abbrev pub EndsUnroll : {F : Type 0} → Flow Seen → (F → Option (List ℕ)) → Unroll F → Result (Unit {0}) Exit → Type 0
EndsUnroll out left it result =
    IfSome (left it.circuit) (λ file.
    Ends out run_faults.Output end_of (OfFile file (UnrollsKept it.frames it.to)) result)

-- with `--map`
abbrev pub OpensUnrollAndMap : {F : Type 0} → ArgMatches → UnrollAndMap (FileSource F) → Type 0
OpensUnrollAndMap matches it =
    HoldsNumber matches (codes "K") (Some it.frames) × HoldsFormat matches it.to
    × (first_value (found_of matches) (codes "map") ≡ Some it.map.now) × IsCircuitOf matches it.circuit

abbrev pub EndsUnrollAndMap : {F : Type 0} → Flow Seen → (F → Option (List ℕ)) → UnrollAndMap F → Result (Unit {0}) Exit
    → Type 0
EndsUnrollAndMap out left it result =
    IfSome (left it.circuit) (λ file.
    EndsKeeping out run_faults.Output (OfFile file (UnrollsKept it.frames it.to)) result)
