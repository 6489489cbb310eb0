use Rattle.aig_commands.specs.CheckAlive.{ChecksRun}
use Rattle.aig_command.specs.Command.{OfFile}
use Rattle.aig_command.specs.declared.run_fault.RunFault.TheVariants as run_faults
use Rattle.aig_program.proofs.Endings.{command_ends}
use Rattle.aig_program.proofs.commands.check.write_alive.Goals as goal

pub returns : goal.returns
returns g c =
    command_ends g.W.Write.written g.W.Write.failures _ _ _ run_faults.Output (OfFile c.args.it.circuit.now (ChecksRun c.args.it.frames c.args.it.witness.now)) c.check_alive-done.result c.alive.result c.check_alive-done.ensures.ends c.alive.ensures.ends
