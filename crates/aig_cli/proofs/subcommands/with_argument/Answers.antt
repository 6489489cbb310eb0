use Rattle.std.proofs.Common.{ap, ◌∙◌}
use Rattle.std.proofs.lemmas.Result.{IfOk-weaker}
use Rattle.clap.specs.Words.{app_of, with_rule}
use Rattle.aig_cli.proofs.Tables.{is_local}
use Rattle.aig_cli.proofs.subcommands.with_argument.Goals as goal

pub returns : goal.returns
returns c = record {
  app = IfOk-weaker c.arg.result _ _ (λ command adds. adds.shape (is_local c.in_ok-built.field-0 c.args.row.now c.in_ok-built.ensures.rule)
      ∙ ap (with_rule (app_of c.args.command)) c.in_ok-built.ensures.rule) c.arg.ensures;
}
