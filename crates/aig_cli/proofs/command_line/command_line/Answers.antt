use Rattle.std.proofs.Common.{ap, ◌∙◌}
use Rattle.std.proofs.lemmas.Result.{IfOk-weaker}
use Rattle.clap.specs.Words.{app_of}
use Rattle.aig_cli.specs.Table.{with_rows}
use Rattle.aig_cli.proofs.Programs.{tables_are_command_line}
use Rattle.aig_cli.proofs.command_line.command_line.Goals as goal

pub returns : goal.returns
returns c = record {
  commands = IfOk-weaker c.with_subcommands-4.result _ _ (λ command app.
      tables_are_command_line c.files.result.now c.runs.result.now c.witnesses.result.now c.refutations.result.now
      (app_of command)
      (app ∙ ap (λ above. with_rows above c.refutations.result.now) (c.in_ok-program-3.ensures.app
      ∙ ap (λ above. with_rows above c.witnesses.result.now) (c.in_ok-program-2.ensures.app
      ∙ ap (λ above. with_rows above c.runs.result.now) (c.in_ok-program.ensures.app
      ∙ ap (λ above. with_rows above c.files.result.now) c.program.ensures.app))))
      c.files.ensures.rows c.runs.ensures.rows c.witnesses.ensures.rows c.refutations.ensures.rows)
      c.with_subcommands-4.ensures.app;
}
