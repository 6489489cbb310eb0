use Rattle.aig.proofs.run_command.Goals as goal

pub returns : goal.returns
returns g c = record { ends = (c.command_for.result, c.command_for.ensures.chosen, c.run_opened.ensures.ends) }
