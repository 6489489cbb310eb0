-- `shell`: what its arguments choose. How it ends, says the program, which has sessions.
-- Example: `shell --witness CIRCUIT FILE` begins with the run of the witness in that file.
use Rattle.clap.specs.declared.parser.matches.ArgMatches.{ArgMatches}
use Rattle.aig_files.specs.declared.source.FileSource.{FileSource}
use Rattle.aig_program.specs.ChosenFiles.{HoldsGiven, IsCircuitOf}
use Rattle.aig_program.specs.declared.commands.shell.Shell.{Shell}

abbrev pub OpensShell : {F : Type 0} → ArgMatches → Shell (FileSource F) → Type 0
OpensShell matches it = IsCircuitOf matches it.circuit × HoldsGiven matches it.given
