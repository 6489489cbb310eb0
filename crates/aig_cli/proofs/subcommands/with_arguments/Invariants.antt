use Rattle.std.proofs.Common.{◌≡◌, drop, map}
use Rattle.clap.specs.Words.{app_of}
use Rattle.aig_cli.specs.Table.{rule_of_argument, with_rules}
use Rattle.aig_cli.proofs.subcommands.with_arguments.Given as goal

abbrev pub invariant-loop-row : goal.invariant-loop-row
invariant-loop-row l = with_rules (app_of l.command) (map rule_of_argument (drop l.row-index l.rows))
    ≡ with_rules (app_of l.initial.command) (map rule_of_argument l.rows)
