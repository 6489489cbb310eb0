use Rattle.std.proofs.Common.{ap, map, ◌∙◌}
use Rattle.std.proofs.lemmas.Result.{IfOk-weaker}
use Rattle.clap.specs.Words.{app_of}
use Rattle.aig_cli.specs.Table.{rule_of_argument, with_rules}
use Rattle.aig_cli.proofs.Programs.{row_built}
use Rattle.aig_cli.proofs.subcommands.built_subcommand.Goals as goal

pub returns : goal.returns
returns c = record {
  shape = IfOk-weaker c.with_arguments.result _ _ (λ command app. row_built c.args.row.now (app_of command) (app
      ∙ ap (λ above. with_rules above (map rule_of_argument c.args.row.now.arguments.now)) c.bare.ensures.app))
      c.with_arguments.ensures.app;
}
