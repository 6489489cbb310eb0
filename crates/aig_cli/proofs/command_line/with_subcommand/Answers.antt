use Rattle.std.proofs.Common.{ap, ◌∙◌}
use Rattle.std.proofs.lemmas.Result.{IfOk-weaker}
use Rattle.clap.specs.Words.{app_of, with_subcommand}
use Rattle.aig_cli.proofs.Programs.{has_no_globals}
use Rattle.aig_cli.proofs.command_line.with_subcommand.Goals as goal

pub returns : goal.returns
returns c = record {
  app = IfOk-weaker c.subcommand.result _ _ (λ program adds.
      adds.shape (has_no_globals _ c.args.row.now c.in_ok-built_subcommand.ensures.shape)
      ∙ ap (with_subcommand (app_of c.args.program)) c.in_ok-built_subcommand.ensures.shape) c.subcommand.ensures;
}
