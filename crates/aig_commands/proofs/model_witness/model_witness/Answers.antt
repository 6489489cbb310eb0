use Rattle.aig_bytes.specs.Flow.{flow}
use Rattle.aig_commands.specs.Questions.{NamesFor, asked_of, certificate_of, heading_of}
use Rattle.aig_commands.proofs.Questions.{names_no_fault, question_ends, question_refused}
use Rattle.aig_commands.proofs.model_witness.model_witness.Goals as goal

pub returns : goal.returns
returns g c =
    record {
      ends =
          let asked = asked_of c.args.question in
          question_ends (NamesFor (heading_of asked) c.args.model.now) c.args.file.now
          (flow g.W.Write.written g.W.Write.failures c.args.out.now c.answer.new.out) (certificate_of asked)
          c.in_ok-circuit.circuit (names_no_fault (heading_of asked) c.args.model.now c.in_ok-circuit.circuit) c.in_ok-circuit.ensures.about c.answer.result c.answer.ensures;
    }

pub returns-in_err-circuit : goal.returns-in_err-circuit
returns-in_err-circuit g c =
    record {
      ends =
          let asked = asked_of c.args.question in
          question_refused (NamesFor (heading_of asked) c.args.model.now) c.args.file.now g.W.Write.written g.W.Write.failures c.args.out.now
          (certificate_of asked) c.in_err-circuit.field-0.0
          c.in_err-circuit.ensures.refused c.from_residual.result c.from_residual.ensures.1;
    }
