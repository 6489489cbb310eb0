-- What the end of a run of the program means.
-- Example: where the words are `aig refute --frames 20 CIRCUIT PROOF`, status 0 says that `Refute` ended well, and that
-- its K is 20.
use Rattle.std.specs.Prelude.{◌≡◌, ℕ, List, [], Option, Result, Ok, Err, IfOk, OnOk, map, String}
use Rattle.std.specs.Vec.Iter.{into_iter_items}
use Rattle.std.specs.declared.vec.IntoIter.{IntoIter}
use Rattle.aig_bytes.specs.Flow.{Flow}
use Rattle.clap.specs.declared.parser.matches.ArgMatches.{ArgMatches}
use Rattle.aig_cli.specs.Table.{HoldsWords}
use Rattle.aig_command.specs.Command.{Got}
use Rattle.aig_files.specs.ExitStatus.{status_of_exit}
use Rattle.aig_files.specs.Source.{source_remaining}
use Rattle.aig_files.specs.declared.exit.Exit.{Exit}
use Rattle.aig_files.specs.declared.source.FileSource.{FileSource}
use Rattle.aig_program.specs.Arguments.{IsUnparsed}
use Rattle.aig_program.specs.Choice.{Chooses}
use Rattle.aig_program.specs.Commands.{EndsAsMeant, MeansGood}
use Rattle.aig_program.specs.Ends.{Seen}
use Rattle.aig_program.specs.declared.chosen.Chosen.{Chosen}
use Rattle.aig_program.specs.declared.chosen.Chosen.TheVariants as chosen
use Rattle.aig.specs.Sessions.{EndsSession}

-- a command or a session that was opened ends as it means, and a good end says what it means; where none was, the run
-- ends with the exit that says so, and nothing is written
abbrev pub EndsAsOpened : {F : Type 0} → Flow Seen → (F → Option (List ℕ)) → Result (Chosen F) Exit
    → Result (Unit {0}) Exit
    → Type 0
EndsAsOpened out left (Ok (chosen.Command command)) result =
    EndsAsMeant out left command result × OnOk result (MeansGood left command)
EndsAsOpened out left (Ok (chosen.Session it)) result = EndsSession out left it.circuit it.given result
EndsAsOpened out left (Err exit) result = (result ≡ Err exit) × Got out []

-- a run ends as its arguments mean, and its writer gets what they mean, where the type of a file says which bytes it
-- has left
abbrev pub RunsAsMeant : {F : Type 0} → Flow Seen → (F → Option (List ℕ)) → ArgMatches → Result (Unit {0}) Exit → Type 0
RunsAsMeant {F} out left matches result =
    (opened : Result (Chosen (FileSource F)) Exit) × IfOk opened (Chooses matches)
    × EndsAsOpened out (source_remaining left) opened result

-- A run of the program ends as the words of its arguments mean, and its writer gets what they mean; or they were not
-- parsed, and it gets nothing.
pub data Runs {F : Type 0} (out : Flow Seen) (left : F → Option (List ℕ)) (words : List (List ℕ))
    (result : Result (Unit {0}) Exit) : Type 0 where
  parsed : (matches : ArgMatches) → HoldsWords words matches → RunsAsMeant out left matches result
      → Runs out left words result
  unparsed : (exit : Exit) → result ≡ Err exit → IsUnparsed exit → Got out [] → Runs out left words result

-- the bytes of the arguments that the system gave, in their order; none where it gave none
abbrev pub words_of : {A E : Type 0} → Result (IntoIter (String A) A) E → List (List ℕ)
words_of (Ok args) = map (λ word. word.bytes.items) (into_iter_items args)
words_of (Err error) = []

-- the exit status: 0 for a good end
abbrev pub status_of_end : Result (Unit {0}) Exit → ℕ
status_of_end (Ok done) = 0
status_of_end (Err exit) = status_of_exit exit
