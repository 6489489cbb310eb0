use Rattle.aig_bytes.specs.Flow.{flow}
use Rattle.aig_commands.specs.Check.{Checks, OfProperty}
use Rattle.aig_commands.proofs.Asked.{asked_ends, checks_witness, refused_ends}
use Rattle.aig_commands.proofs.Printed.{none_printed}
use Rattle.aig_commands.proofs.check.check.Goals as goal
use Rattle.aig_command.proofs.Files.{answered, file_refused}
use Rattle.aig_command.specs.Command.{CommandEnds, OfFile}
use Rattle.aig_command.specs.declared.run_fault.RunFault.TheVariants as run_faults

pub returns-clause-ends : goal.returns-clause-ends
returns-clause-ends g c =
    asked_ends Checks c.args.witness.now c.in_ok-circuit.circuit
    (checks_witness c.args.witness.now c.in_ok-circuit.circuit)
    (flow g.W.Write.written g.W.Write.failures c.args.out.now c.check_circuit.new.out) c.args.circuit.now c.in_ok-circuit.ensures.circuit
    c.args.property c.in_ok-refuse_other.ensures.ok c.check_circuit.result c.check_circuit.ensures.ends

pub returns-in_err-refuse_other-clause-ends : goal.returns-in_err-refuse_other-clause-ends
returns-in_err-refuse_other-clause-ends g c =
    answered c.from_residual-in_err-refuse_other.result c.in_err-refuse_other.field-0.0
    (CommandEnds (flow g.W.Write.written g.W.Write.failures c.args.out.now c.args.out.now) run_faults.Output
    (OfFile c.args.circuit.now (OfProperty c.args.property Checks c.args.witness.now)))
    c.from_residual-in_err-refuse_other.ensures.1
    (refused_ends Checks c.args.witness.now c.in_ok-circuit.circuit
    (checks_witness c.args.witness.now c.in_ok-circuit.circuit)
    g.W.Write.written g.W.Write.failures c.args.out.now c.args.circuit.now c.in_ok-circuit.ensures.circuit c.args.property
    c.in_err-refuse_other.field-0.0 c.in_err-refuse_other.ensures.fault)

pub returns-in_err-circuit-clause-ends : goal.returns-in_err-circuit-clause-ends
returns-in_err-circuit-clause-ends g c =
    answered c.from_residual.result (run_faults.Circuit c.in_err-circuit.field-0.0)
    (CommandEnds (flow g.W.Write.written g.W.Write.failures c.args.out.now c.args.out.now) run_faults.Output
    (OfFile c.args.circuit.now (OfProperty c.args.property Checks c.args.witness.now)))
    c.from_residual.ensures.1
    (file_refused g.W.Write.written g.W.Write.failures c.args.out.now run_faults.Output
    (OfProperty c.args.property Checks c.args.witness.now) c.args.circuit.now c.in_err-circuit.field-0.0 c.in_err-circuit.ensures.fault)

pub returns-clause-printed : goal.returns-clause-printed
returns-clause-printed g c = λ printed.
    (c.in_ok-circuit.circuit, c.in_ok-circuit.ensures.circuit, c.check_circuit.ensures.printed printed, c.in_ok-refuse_other.ensures.ok)

pub returns-in_err-refuse_other-clause-printed : goal.returns-in_err-refuse_other-clause-printed
returns-in_err-refuse_other-clause-printed g c = λ printed. absurd (none_printed (g.W.Write.written c.args.out.now) _ _ printed)

pub returns-in_err-circuit-clause-printed : goal.returns-in_err-circuit-clause-printed
returns-in_err-circuit-clause-printed g c = λ printed. absurd (none_printed (g.W.Write.written c.args.out.now) _ _ printed)
