-- What the arguments choose.
-- Example: `aig check CIRCUIT WITNESS` chooses a `Check` of files that have these names.
use Rattle.std.specs.Prelude.{ℕ, List, codes}
use Rattle.clap.specs.declared.parser.matches.ArgMatches.{ArgMatches}
use Rattle.aig_cli.specs.Held.{HoldsSubcommand}
use Rattle.aig_files.specs.declared.source.FileSource.{FileSource}
use Rattle.aig_program.specs.Commands.{Opens}
use Rattle.aig_program.specs.Shell.{OpensShell}
use Rattle.aig_program.specs.declared.chosen.Chosen.{Chosen}
use Rattle.aig_program.specs.declared.chosen.Chosen.TheVariants as chosen

-- the arguments choose a command: it is that of their subcommand, with its options and the files that they name; or a
-- session, with its files
abbrev pub Chooses : {F : Type 0} → ArgMatches → Chosen (FileSource F) → Type 0
Chooses matches (chosen.Command command) =
    (name : List ℕ) × (own : ArgMatches) × HoldsSubcommand matches name own × Opens name own command
Chooses matches (chosen.Session session) =
    (own : ArgMatches) × HoldsSubcommand matches (codes "shell") own × OpensShell own session
