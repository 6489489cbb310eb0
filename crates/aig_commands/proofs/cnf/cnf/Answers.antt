use Rattle.aig_bytes.specs.Flow.{flow}
use Rattle.aig_commands.specs.Questions.{WritesFor, asked_of, certificate_of, heading_of}
use Rattle.aig_commands.proofs.Questions.{writes_no_fault, question_ends, question_refused}
use Rattle.aig_commands.proofs.cnf.cnf.Goals as goal

pub returns : goal.returns
returns g c =
    record {
      ends =
          let asked = asked_of c.args.question in
          question_ends (WritesFor (heading_of asked)) c.args.file.now
          (flow g.W.Write.written g.W.Write.failures c.args.out.now c.make_and_write.new.out) (certificate_of asked)
          c.in_ok-circuit.circuit (writes_no_fault (heading_of asked) c.in_ok-circuit.circuit) c.in_ok-circuit.ensures.about c.make_and_write.result c.make_and_write.ensures;
    }

pub returns-in_err-circuit : goal.returns-in_err-circuit
returns-in_err-circuit g c =
    record {
      ends =
          let asked = asked_of c.args.question in
          question_refused (WritesFor (heading_of asked)) c.args.file.now g.W.Write.written g.W.Write.failures c.args.out.now
          (certificate_of asked) c.in_err-circuit.field-0.0
          c.in_err-circuit.ensures.refused c.from_residual.result c.from_residual.ensures.1;
    }
