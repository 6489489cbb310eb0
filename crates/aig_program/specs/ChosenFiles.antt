-- Which files a command has, by what the matches of the parser hold for it: each has the name by which it was opened.
-- Example: of `check CIRCUIT WITNESS` the circuit has the first name, and the witness the second.
use Rattle.std.specs.Prelude.{◌≡◌, ℕ, List, Option, None, Some, codes, option_map, true, false, ⊤}
use Rattle.clap.specs.Matches.{first_value, found_of}
use Rattle.clap.specs.declared.parser.matches.ArgMatches.{ArgMatches}
use Rattle.aig_files.specs.Source.{source_name}
use Rattle.aig_files.specs.declared.kept.KeptFileNames.{KeptFileNames}
use Rattle.aig_files.specs.declared.source.FileSource.{FileSource}
use Rattle.aig_cli.specs.Held.{HoldsFlag}
use Rattle.aig_command.specs.declared.given.Given.{Given}
use Rattle.aig_command.specs.declared.given.Given.TheVariants as given
use Rattle.aig_commands.specs.declared.question.Question.{Question}
use Rattle.aig_commands.specs.declared.question.Question.TheVariants as questions

-- the file has the name that an argument gives
abbrev pub IsNamedBy : {F : Type 0} → ArgMatches → List ℕ → FileSource F → Type 0
IsNamedBy matches argument file = first_value (found_of matches) argument ≡ Some (source_name file)

abbrev pub IsCircuitOf : {F : Type 0} → ArgMatches → FileSource F → Type 0
IsCircuitOf matches file = IsNamedBy matches (codes "CIRCUIT") file

-- the file of a run that may be left out
abbrev pub HoldsGiven : {F : Type 0} → ArgMatches → Given (FileSource F) → Type 0
HoldsGiven matches given.Nothing = first_value (found_of matches) (codes "STIM") ≡ None
HoldsGiven matches (given.Stimulus file) =
    HoldsFlag matches (codes "witness") false × IsNamedBy matches (codes "STIM") file
HoldsGiven matches (given.Witness file) =
    HoldsFlag matches (codes "witness") true × IsNamedBy matches (codes "STIM") file

-- the file of the certificate by which a question is asked
abbrev pub HoldsClaimed : {F : Type 0} → ArgMatches → Question (FileSource F) → Type 0
HoldsClaimed matches (questions.Certified certificate p) = IsNamedBy matches (codes "certificate") certificate
HoldsClaimed matches _ = ⊤

-- the proof of a step, if one is named
abbrev pub HoldsStep : {F : Type 0} → ArgMatches → FileSource F → Type 0
HoldsStep matches step =
    (name : List ℕ) → first_value (found_of matches) (codes "step") ≡ Some name → source_name step ≡ name

-- the names of the files that keep what a script leaves
abbrev pub HoldsKept : ArgMatches → KeptFileNames → Type 0
HoldsKept matches kept =
    (option_map (λ name. name.now) kept.circuit ≡ first_value (found_of matches) (codes "circuit-out"))
    × (option_map (λ name. name.now) kept.stimulus ≡ first_value (found_of matches) (codes "stimulus-out"))
