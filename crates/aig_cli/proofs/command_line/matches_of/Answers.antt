use Rattle.std.proofs.lemmas.Result.{IfOk-weaker}
use Rattle.clap.specs.Words.{app_of}
use Rattle.aig_cli.proofs.command_line.matches_of.Goals as goal

pub returns : goal.returns
returns c = record {
  words = IfOk-weaker c.try_get_matches_from.result _ _ (λ matches holds.
      let command = c.in_ok-command_line.ensures.commands in
      (app_of c.in_ok-command_line.field-0, command.0, (holds command.1).0, (holds command.1).1)) c.try_get_matches_from.ensures.matches;
}
