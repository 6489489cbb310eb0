-- The exit status of the program. Where the standard is silent, it is our own choice.
-- Example: wrong arguments have 2, a verdict other than `confirmed` has 1.
use Rattle.std.specs.Prelude.{ℕ}
use Rattle.aig_command.specs.Status.{status_of}
use Rattle.aig_files.specs.declared.exit.Exit.{Exit}
use Rattle.aig_files.specs.declared.exit.Exit.TheVariants as exits

-- 2 where the arguments are wrong or ask for a text; 3 for a file that is not read; 1 for a verdict other than
-- confirmed; else the run's
abbrev pub status_of_exit : Exit → ℕ
status_of_exit exits.Reported = 2
status_of_exit exits.NoCommand = 2
status_of_exit exits.NotText = 2
status_of_exit (exits.Run fault) = status_of fault
status_of_exit (exits.Unread part) = 3
status_of_exit exits.NotConfirmed = 1
