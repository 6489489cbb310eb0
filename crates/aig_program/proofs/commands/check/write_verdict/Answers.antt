use Rattle.aig_commands.specs.Check.{Checks, ChecksAndTraces, OfProperty}
use Rattle.aig_command.specs.Command.{OfFile}
use Rattle.aig_command.specs.declared.run_fault.RunFault.TheVariants as run_faults
use Rattle.aig_program.proofs.Endings.{command_ends}
use Rattle.aig_program.proofs.commands.check.write_verdict.Goals as goal

pub returns-in-Some : goal.returns-in-Some
returns-in-Some g c =
    rw c.in-Some.is (command_ends g.W.Write.written g.W.Write.failures _ _ _ run_faults.Output (OfFile c.args.it.circuit.now (OfProperty c.args.it.property (ChecksAndTraces c.in-Some.shown) c.args.it.witness.now)) c.check_and_trace-done.result c.confirmed.result c.check_and_trace-done.ensures.ends c.confirmed.ensures.ends)

pub returns-in-None : goal.returns-in-None
returns-in-None g c =
    rw c.in-None.is (command_ends g.W.Write.written g.W.Write.failures _ _ _ run_faults.Output (OfFile c.args.it.circuit.now (OfProperty c.args.it.property Checks c.args.it.witness.now)) c.check-done.result c.confirmed-in-None.result c.check-done.ensures.ends c.confirmed-in-None.ensures.ends)
