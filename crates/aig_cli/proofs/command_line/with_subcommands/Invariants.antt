use Rattle.std.proofs.Common.{◌≡◌, drop}
use Rattle.clap.specs.Words.{app_of}
use Rattle.aig_cli.specs.Table.{with_rows}
use Rattle.aig_cli.proofs.command_line.with_subcommands.Given as goal

abbrev pub invariant-loop-row : goal.invariant-loop-row
invariant-loop-row l = with_rows (app_of l.program) (drop l.row-index l.rows) ≡ with_rows (app_of l.initial.program) l.rows
