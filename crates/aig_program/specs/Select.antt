-- `select`: what its arguments choose, and how it ends.
-- Example: `select --property b1 --to aag CIRCUIT` keeps the second bad state property.
use Rattle.std.specs.Prelude.{◌≡◌, ℕ, List, Option, IfSome, Result, codes, false, true}
use Rattle.clap.specs.declared.parser.matches.ArgMatches.{ArgMatches}
use Rattle.aig_bytes.specs.Flow.{Flow}
use Rattle.aig_command.specs.Command.{OfFile}
use Rattle.aig_commands.specs.Select.{Selects}
use Rattle.aig_files.specs.declared.exit.Exit.{Exit}
use Rattle.aig_files.specs.declared.source.FileSource.{FileSource}
use Rattle.aig_program.specs.Chosen.{HoldsFormat, HoldsSelection, is_given}
use Rattle.aig_program.specs.ChosenFiles.{IsCircuitOf, IsNamedBy}
use Rattle.aig_program.specs.Ends.{Ends, EndsSelectingNamed, Seen, end_of}
use Rattle.aig_command.specs.declared.run_fault.RunFault.TheVariants as run_faults
use Rattle.aig_program.specs.declared.commands.select.Select.{Select}
use Rattle.aig_program.specs.declared.commands.select.SelectNamed.{SelectNamed}

abbrev pub OpensSelect : {F : Type 0} → ArgMatches → Select (FileSource F) → Type 0
OpensSelect matches it =
    HoldsSelection matches it.circuit it.selection × HoldsFormat matches it.to
    × (is_given matches (codes "names") ≡ false) × IsCircuitOf matches it.circuit

abbrev pub EndsSelect : {F : Type 0} → Flow Seen → (F → Option (List ℕ)) → Select F → Result (Unit {0}) Exit → Type 0
EndsSelect out left it result =
    IfSome (left it.circuit) (λ file. Ends out run_faults.Output end_of
    (OfFile file (Selects it.selection.from it.selection.into it.selection.positions.items it.to)) result)

-- with `--names`
abbrev pub OpensSelectNamed : {F : Type 0} → ArgMatches → SelectNamed (FileSource F) → Type 0
OpensSelectNamed matches it =
    HoldsSelection matches it.circuit it.selection × HoldsFormat matches it.to
    × (is_given matches (codes "names") ≡ true) × IsCircuitOf matches it.circuit
    × IsNamedBy matches (codes "names") it.names

abbrev pub EndsSelectNamed : {F : Type 0} → Flow Seen → (F → Option (List ℕ)) → SelectNamed F → Result (Unit {0}) Exit
    → Type 0
EndsSelectNamed out left it result =
    IfSome (left it.circuit) (λ file. IfSome (left it.names) (λ text.
    EndsSelectingNamed out it.selection.from it.selection.into it.selection.positions.items text it.to file result))
