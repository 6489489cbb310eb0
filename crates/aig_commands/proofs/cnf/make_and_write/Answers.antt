use Rattle.std.proofs.Common.{[]}
use Rattle.aig_bytes.specs.Flow.{flow}
use Rattle.aig_cnf.specs.CnfText.{read_text}
use Rattle.aig_command.proofs.Files.{answered}
use Rattle.aig_command.proofs.Written.{got_none, output_ends}
use Rattle.aig_command.specs.Command.{CommandEnds}
use Rattle.aig_command.specs.declared.run_fault.RunFault.TheVariants as run_faults
use Rattle.aig_commands.specs.Questions.{WritesFor, asked_of, heading_of}
use Rattle.aig_commands.proofs.Questions.{writes_formula, writes_none}
use Rattle.aig_commands.proofs.cnf.make_and_write.Goals as goal

pub returns : goal.returns
returns g c =
    let read' = c.in_ok-read.read in
    let e = c.in_ok-read.ensures in
    let asked = heading_of (asked_of c.args.question) in
    output_ends g.W.Write.written g.W.Write.failures c.args.out.now c.write_text.new.out
    (WritesFor asked c.args.circuit.now) (read_text c.formula_of.new.circuit c.heading_of.result read') c.write_text.result
    c.write_text.ensures.written c.write_text.ensures.output
    (writes_formula asked c.args.circuit.now c.formula_of.new.circuit c.heading_of.result read' e.accepted e.formula e.circuit
    c.heading_of.ensures)

pub returns-in_err-read : goal.returns-in_err-read
returns-in_err-read g c =
    let asked = heading_of (asked_of c.args.question) in
    answered c.from_residual.result (run_faults.Cnf c.in_err-read.field-0.0)
    (CommandEnds (flow g.W.Write.written g.W.Write.failures c.args.out.now c.args.out.now) run_faults.Output
    (WritesFor asked c.args.circuit.now))
    c.from_residual.ensures.1
    (CommandEnds.writes_all [] (writes_none asked c.args.circuit.now c.in_err-read.field-0.0 c.in_err-read.ensures.refused)
    (got_none g.W.Write.written g.W.Write.failures c.args.out.now))
